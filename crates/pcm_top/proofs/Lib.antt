pub mod Reporting
pub mod Shapes
pub mod Drawing
pub mod Telling
pub mod Deciding
mod Replaying
pub mod Printable
mod Worn
mod Saving
mod Making
