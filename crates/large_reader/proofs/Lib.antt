mod Steady
mod Listing
mod Lines
mod Cells
pub mod Whole
