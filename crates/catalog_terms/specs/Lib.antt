pub mod Keys
pub mod Catalog
pub mod References
pub mod NeedsOp
pub mod Bindings
pub mod Limits
pub mod Define
pub mod Remove
