pub mod Chains
pub mod Closing
pub mod Employing
pub mod Growing
pub mod Lists
pub mod Sending
