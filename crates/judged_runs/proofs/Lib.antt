mod Standing
pub mod JudgedRuns
