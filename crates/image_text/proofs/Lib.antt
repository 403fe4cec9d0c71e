mod Cells
pub mod Sensing
pub mod Whole
