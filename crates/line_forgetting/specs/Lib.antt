pub mod Following
pub mod Moves
pub mod Right
pub mod Touched
