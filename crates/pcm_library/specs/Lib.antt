pub mod Keeping
pub mod Serving
pub mod Answers
pub mod Looking
