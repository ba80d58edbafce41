pub mod Books
pub mod Entrances
pub mod Calls
pub mod DoorMemory
pub mod DoorsMemory
pub mod Gates
