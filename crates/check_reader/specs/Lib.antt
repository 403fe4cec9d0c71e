-- Which bytes are results, which are not, and where results begin behind a trace.
pub mod ResultRows
pub mod Fields
pub mod Parts
pub mod Splitting
pub mod ReadOnce
