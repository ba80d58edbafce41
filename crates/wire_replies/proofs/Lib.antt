pub mod FullnessLemmas
pub mod HeadLemmas
pub mod OutcomeLemmas
pub mod Phrases
pub mod RenderLemmas
pub mod Results
pub mod Values
