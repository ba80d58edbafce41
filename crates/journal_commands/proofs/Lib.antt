pub mod Sessions
pub mod Upgrading
pub mod FollowEnds
