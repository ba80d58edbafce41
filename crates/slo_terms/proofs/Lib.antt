pub mod SumLemmas
pub mod RowLemmas
pub mod JudgedLemmas
pub mod RangeLemmas
pub mod CurrentLemmas
