pub mod Answering
pub mod Fresh
pub mod Keeping
pub mod Writing
pub mod Cuts
pub mod Losing
pub mod Touched
pub mod Waits
mod Stood
pub mod Begun
mod Restored
mod Within
pub mod Sizes
mod Heads
