mod Shown
mod DrawnRuns
mod Completing
mod CheckedRuns
