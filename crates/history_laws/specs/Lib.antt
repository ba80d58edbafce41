pub mod Judged
pub mod Kept
pub mod Once
pub mod BeforeUpgrade
