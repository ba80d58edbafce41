pub mod Counts
pub mod CutLemmas
pub mod Fields
pub mod PartLemmas
pub mod PlaceLemmas
pub mod Reading
pub mod Rest
pub mod Worked
