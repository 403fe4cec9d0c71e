pub mod Answers
pub mod Lines
pub mod Queueing
pub mod Rows
pub mod Serving
pub mod Table
pub mod Ticking
pub mod Wearing
