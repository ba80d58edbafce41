mod FormLemmas
mod HistoryLemmas
mod LoopLemmas
mod RecordLemmas
mod SizeLemmas
