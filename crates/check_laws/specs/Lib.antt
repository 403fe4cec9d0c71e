-- What the verdict on a right run is.
pub mod Verdicts
pub mod Ticks
