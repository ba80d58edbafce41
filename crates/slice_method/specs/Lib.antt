pub mod Leaves
pub mod Readings
