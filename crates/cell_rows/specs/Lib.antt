pub mod Rows
pub mod Shape
pub mod Pulse
pub mod Energy
pub mod Device
pub mod Told
