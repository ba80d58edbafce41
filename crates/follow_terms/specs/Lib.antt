pub mod Follows
pub mod Pieces
pub mod Prefixes
