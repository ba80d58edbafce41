pub mod JudgementLemmas
pub mod ReadLemmas
pub mod DayLemmas
pub mod OnceLemmas
pub mod OldLemmas
