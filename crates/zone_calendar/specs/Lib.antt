pub mod Zone
pub mod ZoneBytes
pub mod Kind
pub mod CivilText
pub mod Starts
pub mod Moments
pub mod Window
pub mod CivilRead
