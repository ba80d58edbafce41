pub mod Judging
pub mod Kinds
pub mod Laws
pub mod Wanted
