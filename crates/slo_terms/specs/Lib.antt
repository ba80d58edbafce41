pub mod Sums
pub mod Rows
pub mod Judged
pub mod Budget
