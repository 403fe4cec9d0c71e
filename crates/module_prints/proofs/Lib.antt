pub mod Wearing
pub mod Clocks
mod Whole
mod Pulsing
mod Mapping
mod MapsAlike
