-- What the promise of streams is, by their rows.
pub mod Rows
pub mod Promise
