-- Lemmas on a text that is gathered and written piece after piece, on the rows of the results, on counts of outcomes, on the lines of a
-- summary, and on sums of pulses.
pub mod Gathered
mod Rows
pub mod Adding
mod Counted
mod SummaryLines
mod Summed
mod Worked
pub mod WearLemmas
