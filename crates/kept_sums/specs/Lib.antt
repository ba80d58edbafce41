pub mod Found
pub mod Keys
pub mod Objectives
pub mod Plans
pub mod Replacing
pub mod Sums
pub mod Walks
