mod Remapped
mod Leaving
mod Following
pub mod Begun
mod Heads
mod Placing
pub mod Queueing
pub mod Leftover
mod Kept
pub mod Queued
pub mod Ending
mod Roles
pub mod Used
