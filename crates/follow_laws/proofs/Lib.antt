pub mod Feeding
mod FrontLemmas
pub mod Keeping
pub mod Ones
mod ReadLemmas
mod StepLemmas
