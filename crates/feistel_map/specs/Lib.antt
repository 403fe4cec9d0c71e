pub mod Network
pub mod Addresses
pub mod Log2
