-- How streamed traces are read.
pub mod Keeping
pub mod PlainNext
pub mod Gathering
pub mod Marks
pub mod Steps
pub mod Requests
pub mod KeptRecords
pub mod Judging
pub mod Rows
pub mod Lawful
mod Peeking
pub mod Runs
pub mod Traces
pub mod Bare
pub mod Fronts
