pub mod CurrentLemmas
pub mod FillLemmas
pub mod TableLemmas
pub mod EventLemmas
pub mod BudgetLemmas
pub mod JudgingLemmas
pub mod InputLemmas
