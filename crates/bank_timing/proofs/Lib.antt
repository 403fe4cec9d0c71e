pub mod Sizes
mod Rows
mod Standing
mod Acting
mod Views
mod Due
mod Changes
mod Serves
mod LineWrites
mod Begins
mod Iterations
mod Keeps
pub mod Running
mod ReadArrivals
mod Cancels
mod Settling
mod Queued
mod Drains
mod WriteArrivals
mod Losses
mod Merging
mod Sensing
mod Restoring
mod Recovers
mod Firsts
mod Lawful
pub mod Telling
