pub mod Masked
pub mod Entries
