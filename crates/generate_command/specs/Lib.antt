pub mod Tallies
pub mod Tallying
pub mod Summary
pub mod Playing
pub mod Generated
