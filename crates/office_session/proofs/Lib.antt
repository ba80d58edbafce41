pub mod Keeping
pub mod Seeing
pub mod Clerking
pub mod Owning
pub mod Replying
pub mod Sending
