pub mod Reports
mod Sums
pub mod Told
