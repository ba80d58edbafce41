pub mod Fillings
pub mod Hearings
pub mod Sessions
