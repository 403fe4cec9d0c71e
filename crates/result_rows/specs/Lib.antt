-- What the rows of a run's results say, and their bytes.
pub mod Outcomes
pub mod RowText
pub mod Table
