pub mod Number
pub mod Payload
pub mod Rows
pub mod Plain
pub mod Records
pub mod Trace
pub mod Events
