pub mod Fullness
pub mod Laws
pub mod Learning
pub mod Starts
pub mod States
