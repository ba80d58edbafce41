pub mod Unit
pub mod Minutes
pub mod Reading
pub mod Writing
