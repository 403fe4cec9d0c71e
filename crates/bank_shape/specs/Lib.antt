pub mod Acting
pub mod Pausing
pub mod Shape
pub mod Kinds
