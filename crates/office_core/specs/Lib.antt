pub mod Forgetting
pub mod Lent
pub mod Machine
pub mod Seen
pub mod SumsSeen
