pub mod Moves
pub mod Parts
pub mod Sizes
pub mod Texts
pub mod Zones
