mod Rows
pub mod Octets
pub mod Held
pub mod Fields
pub mod SpanFacts
pub mod Steps
pub mod Least
pub mod Lengths
pub mod StandFacts
pub mod CallFacts
pub mod MovedLanes
pub mod ReadyBeats
pub mod GrowthFacts
pub mod GroupFacts
