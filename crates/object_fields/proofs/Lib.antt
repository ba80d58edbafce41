mod TextLemmas
pub mod ReadLemmas
pub mod ListLemmas
pub mod CountLemmas
