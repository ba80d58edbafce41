pub mod Box
pub mod Laws
pub mod Links
pub mod Plan
