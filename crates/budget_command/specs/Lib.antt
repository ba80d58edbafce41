pub mod Order
pub mod Records
pub mod Tables
pub mod Lines
pub mod Words
pub mod Input
pub mod Answer
