pub mod Lines
pub mod Chains
