-- What the contracts of the program of disks cite.
pub mod Outcomes
pub mod Serving
pub mod Promises
