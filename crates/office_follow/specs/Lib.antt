pub mod Followed
pub mod Heads
pub mod Pieces
pub mod Points
