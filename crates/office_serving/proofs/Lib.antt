pub mod Asked
pub mod Endings
pub mod Growing
pub mod Sending
