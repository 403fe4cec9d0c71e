pub mod SavedRuns
pub mod Sizes
