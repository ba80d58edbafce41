pub mod FormLemmas
pub mod Lists
pub mod More
pub mod NameLemmas
pub mod Sound
pub mod Still
pub mod ZoneLemmas
