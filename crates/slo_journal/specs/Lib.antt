pub mod File
pub mod Front
pub mod Keeping
pub mod Legal
pub mod Scanning
