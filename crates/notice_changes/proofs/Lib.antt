mod BoxLemmas
mod TickLemmas
mod TakeLemmas
mod OnceLemmas
mod StateLemmas
