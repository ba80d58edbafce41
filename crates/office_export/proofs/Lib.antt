pub mod FieldLemmas
pub mod NameLemmas
pub mod SizeLemmas
pub mod StepLemmas
pub mod WalkLemmas
pub mod WriteLemmas
