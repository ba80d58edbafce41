pub mod KeyLemmas
mod CountLemmas
mod AmongLemmas
mod OneCatalog
mod PutLemmas
mod HistoryLemmas
mod PlaceLemmas
pub mod FindLemmas
mod SearchLemmas
pub mod WholeLemmas
mod WeightLemmas
mod DefineLemmas
mod LegalLemmas
mod RemoveLemmas
mod DuplicateLemmas
mod SameLemmas
