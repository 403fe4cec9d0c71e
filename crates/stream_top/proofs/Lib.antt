-- The line of a fault, how a stream is served, what it leaves, what its call promises, and that it tells before it asks.
mod Telling
mod Playing
mod Leaving
mod EndText
mod Keeping
pub mod Waiting
