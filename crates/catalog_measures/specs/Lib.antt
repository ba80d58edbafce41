pub mod Measures
pub mod Names
