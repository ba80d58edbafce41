pub mod Asked
pub mod Holding
pub mod Seen
pub mod Stepping
pub mod Turns
