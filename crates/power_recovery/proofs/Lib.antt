pub mod Placing
pub mod Bundle
pub mod Frames
pub mod Restoring
