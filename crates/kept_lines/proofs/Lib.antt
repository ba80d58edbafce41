mod BindingLemmas
mod CarriedLemmas
pub mod ForgetLemmas
mod KeptLemmas
pub mod KnownLemmas
pub mod LineLemmas
mod PlanLemmas
mod StateLemmas
mod TakeLemmas
pub mod WatchLemmas
