pub mod Limits
pub mod Addresses
