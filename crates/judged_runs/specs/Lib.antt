pub mod JudgedRuns
