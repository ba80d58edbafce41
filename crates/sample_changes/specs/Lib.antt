pub mod Judging
pub mod Works
pub mod Once
