mod AddLemmas
mod OriginLemmas
