pub mod InputLemmas
pub mod GainLemmas
pub mod RowLemmas
pub mod TakingLemmas
pub mod UnderwayLemmas
pub mod LawLemmas
pub mod OneLemmas
