pub mod Alert
pub mod Condition
pub mod Laws
pub mod Timeline
