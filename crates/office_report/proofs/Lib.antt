mod AnswerLemmas
mod LawLemmas
mod LineLemmas
mod PresentLemmas
mod StateLemmas
