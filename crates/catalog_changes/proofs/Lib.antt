pub mod ChangeLemmas
pub mod DefineLemmas
pub mod KindLemmas
pub mod LegalLemmas
pub mod PlanLemmas
pub mod PlanningLemmas
pub mod ReadingLemmas
pub mod WantedLemmas
