pub mod Clerks
pub mod Messages
