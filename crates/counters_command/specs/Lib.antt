pub mod Inputs
pub mod Words
pub mod Rows
pub mod Taking
pub mod Answer
pub mod Running
pub mod Laws
