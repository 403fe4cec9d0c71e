pub mod Items
pub mod Control
pub mod Changing
pub mod Writing
pub mod Staying
pub mod Recovering
pub mod Telling
