pub mod CountLemmas
pub mod ForgettingLemmas
mod LentLemmas
pub mod LinesLemmas
pub mod MachineLemmas
pub mod RangeLemmas
mod SeenLemmas
pub mod Sending
mod TouchedLemmas
