-- A table with one place more, that each row was told, in which order, how a row is served, what a step of a stream does, that it tells before it asks, how what waits in the banks is told, the table of a run, how a stream ends, where it stops at a refusal, and printers that were told the same.
pub mod Growing
mod Standing
pub mod Each
mod InTurn
pub mod Order
mod Backlogs
pub mod Going
mod Ticks
pub mod Hearing
pub mod Nowhere
pub mod Turning
pub mod Tables
pub mod Ends
mod Rows
mod Steps
mod Telling
mod Draws
mod Decided
pub mod Refusals
pub mod Alike
