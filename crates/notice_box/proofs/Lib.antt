pub mod LinkLemmas
pub mod ListLemmas
pub mod BoxLemmas
