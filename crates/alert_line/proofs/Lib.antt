pub mod AlikeLemmas
pub mod LineLemmas
pub mod MinuteLemmas
pub mod RunLemmas
pub mod SpanLemmas
pub mod SummedLemmas
pub mod WindowLemmas
