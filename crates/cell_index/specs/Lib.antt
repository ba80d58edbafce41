pub mod Cells
pub mod Chains
pub mod Extents
pub mod Keys
pub mod Pairs
pub mod Places
