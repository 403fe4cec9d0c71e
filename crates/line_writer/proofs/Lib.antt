pub mod Leaving
pub mod Keeping
pub mod Making
pub mod Settling
pub mod Going
pub mod Rounds
pub mod Untouched
pub mod Orderly
