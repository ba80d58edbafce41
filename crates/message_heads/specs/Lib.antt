pub mod BodyLength
pub mod Fields
pub mod Hearing
pub mod Laws
pub mod Named
pub mod Start
pub mod Streams
pub mod Targets
