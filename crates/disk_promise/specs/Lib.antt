pub mod Keeping
pub mod Clients
