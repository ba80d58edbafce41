pub mod BlockLemmas
pub mod Failures
pub mod NodeLemmas
pub mod OpenLemmas
pub mod ReadLemmas
pub mod Utf8Lemmas
