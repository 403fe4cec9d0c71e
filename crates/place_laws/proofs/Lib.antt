pub mod Counts
pub mod Working
pub mod Moves
pub mod Storing
pub mod Tables
pub mod Slots
pub mod Splits
pub mod Placed
mod Owners
pub mod WornOut
mod Taken
pub mod Pulsing
pub mod Trying
pub mod Cancels
pub mod Pulses
pub mod Moved
mod Places
mod GapMoves
