pub mod AnswerLemmas
pub mod RangeLemmas
