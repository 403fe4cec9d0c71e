pub mod Laws
pub mod Lasting
pub mod ShownRuns
pub mod CheckedRuns
