pub mod Ranges
pub mod Kinds
