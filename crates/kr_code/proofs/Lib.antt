pub mod Generator
pub mod Register
pub mod Rest
