pub mod CountLemmas
pub mod FaultLemmas
pub mod FrameLemmas
pub mod KeyLemmas
pub mod OpenViewLemmas
pub mod PlaceLemmas
pub mod ReaderLemmas
pub mod TextLemmas
