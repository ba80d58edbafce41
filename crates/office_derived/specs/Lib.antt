pub mod Zones
pub mod Tallies
pub mod Derived
