pub mod Arriving
pub mod Running
pub mod Bank
pub mod Steps
pub mod Stepping
pub mod Cutting
pub mod Beginning
