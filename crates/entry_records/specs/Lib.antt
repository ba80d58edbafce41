pub mod Feeds
pub mod Kept
pub mod Laws
