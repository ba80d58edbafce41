pub mod Answers
pub mod Bodies
pub mod Heads
pub mod Immediate
pub mod Laws
pub mod Outcomes
pub mod Refusals
pub mod Values
