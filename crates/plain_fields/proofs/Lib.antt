pub mod PlaceLemmas
pub mod ReadLemmas
