pub mod Replay
pub mod Sendable
pub mod Anew
pub mod Alike
pub mod Coming
