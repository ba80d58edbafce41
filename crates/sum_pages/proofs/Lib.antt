pub mod DayLemmas
pub mod RaisedLemmas
mod PageFacts
mod PagesFacts
mod SlotLemmas
