pub mod Windows
pub mod Growing
pub mod Turns
