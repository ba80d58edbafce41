pub mod BurnOrder
pub mod BudgetLaws
pub mod ConditionLemmas
pub mod TimelineLemmas
