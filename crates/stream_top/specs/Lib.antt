pub mod Calls
pub mod FaultLines
pub mod Leaving
pub mod Taking
pub mod Streams
pub mod Waiting
pub mod Promises
