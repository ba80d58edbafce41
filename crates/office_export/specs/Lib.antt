pub mod Export
pub mod Fields
pub mod Lines
pub mod Requests
pub mod Steps
