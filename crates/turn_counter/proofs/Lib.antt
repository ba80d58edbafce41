pub mod Reading
pub mod Sending
pub mod Going
pub mod Taking
pub mod Holding
pub mod Staying
pub mod Asked
pub mod Turning
