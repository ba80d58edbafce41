pub mod Carried
pub mod Changes
pub mod Known
pub mod Lines
pub mod Plans
pub mod States
pub mod Sums
pub mod Watches
