pub mod Founds
pub mod Marks
pub mod Quick
pub mod Rows
pub mod Stable
pub mod State
