pub mod Cursor
pub mod Laws
pub mod Learnt
pub mod Line
pub mod Minutes
pub mod Spans
pub mod Summed
