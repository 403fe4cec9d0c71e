pub mod Factors
pub mod Keeping
pub mod Standing
pub mod Marking
pub mod Ended
pub mod Staying
pub mod Saved
mod Sizes
