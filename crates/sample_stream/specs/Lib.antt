pub mod Batches
pub mod Stream
