-- What the contracts of the program that shows the image of a large module cite.
pub mod Showing
pub mod FaultLines
pub mod Promises
