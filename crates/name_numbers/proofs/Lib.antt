pub mod FirstPlaces
pub mod NumberLemmas
