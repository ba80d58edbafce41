pub mod Visits
pub mod Workers
