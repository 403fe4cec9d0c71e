-- Lemmas for the crates above: on printed rows, on printed traces that are read, on the events that a seed draws, and on
-- the size of their text.
pub mod Printed
pub mod Read
pub mod Lawful
pub mod Sizes
mod Cuts
mod Drawn
mod Masks
mod Words
