pub mod Blocks
pub mod Columns
pub mod Marker
pub mod Code
pub mod Levels
pub mod Pairs
