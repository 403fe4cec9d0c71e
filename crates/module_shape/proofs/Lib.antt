pub mod Powers
pub mod Bounds
