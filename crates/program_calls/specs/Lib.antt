pub mod Calls
pub mod FaultLines
