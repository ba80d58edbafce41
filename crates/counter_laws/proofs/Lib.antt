pub mod SampleLemmas
pub mod SumLemmas
pub mod HistoryLemmas
