pub mod Lines
pub mod Report
pub mod Rows
pub mod Bound
pub mod Laws
