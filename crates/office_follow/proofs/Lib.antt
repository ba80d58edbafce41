mod EntryLemmas
mod HeadLemmas
mod PieceLemmas
mod PlaceLemmas
pub mod PointLemmas
mod LeadLemmas
