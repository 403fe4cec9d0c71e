pub mod Phases
pub mod Writing
pub mod Untouched
pub mod Orderly
