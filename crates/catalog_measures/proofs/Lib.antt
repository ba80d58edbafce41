pub mod ByName
pub mod CatalogLemmas
