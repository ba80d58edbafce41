mod FeedLemmas
mod KeptLemmas
mod LawLemmas
