pub mod DigitLemmas
pub mod SameLemmas
pub mod BackLemmas
