pub mod Values
pub mod Regs
pub mod Keeping
