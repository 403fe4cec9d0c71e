pub mod Slots
pub mod Kept
pub mod Events
pub mod Restoring
