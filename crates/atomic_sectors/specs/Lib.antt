pub mod Lines
pub mod Moments
pub mod Numbers
pub mod Recorded
pub mod Sectors
pub mod Serving
pub mod Stops
