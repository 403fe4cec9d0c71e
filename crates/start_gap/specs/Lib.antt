pub mod Rotation
pub mod Turn
pub mod Slots
