pub mod Own
pub mod Requests
pub mod Runs
pub mod Stepping
