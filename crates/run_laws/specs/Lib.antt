pub mod Finishing
pub mod FinishedLaws
pub mod RowsOfRuns
pub mod Lasting
