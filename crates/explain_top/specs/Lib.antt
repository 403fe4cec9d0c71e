-- What the contracts of the program that explains a verdict cite.
pub mod Explained
pub mod Calls
pub mod FaultLines
pub mod Explaining
pub mod Ends
pub mod Promises
