pub mod Settles
pub mod Streams
pub mod Turns
pub mod Marks
