pub mod Columns
pub mod Left
pub mod Parts
pub mod Places
pub mod Records
pub mod Worked
