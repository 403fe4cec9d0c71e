pub mod Inverse
pub mod Located
mod Keyed
mod Worked
pub mod Powers
