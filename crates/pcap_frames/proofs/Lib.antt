pub mod Written
pub mod Readings
pub mod Fronts
pub mod Pieces
pub mod Told
pub mod HeaderTold
