pub mod ClearFacts
pub mod WidthFacts
pub mod RangeFacts
pub mod SoundFacts
pub mod EmptinessFacts
pub mod KeptFacts
mod DaysFacts
pub mod RaisedFacts
pub mod ReadLemmas
pub mod ShareLemmas
