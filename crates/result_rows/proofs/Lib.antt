-- Lemmas on rows and their lengths, and on the table of outcomes, for the crates above too.
pub mod RowLemmas
pub mod TableLemmas
pub mod Sizes
