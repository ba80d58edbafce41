pub mod Form
pub mod Records
pub mod Ranges
pub mod Reading
pub mod Writing
pub mod Histories
pub mod Laws
pub mod Words
