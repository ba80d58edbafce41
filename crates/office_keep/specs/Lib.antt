pub mod Files
pub mod Office
pub mod Steps
pub mod Laws
pub mod Opening
pub mod Adopting
