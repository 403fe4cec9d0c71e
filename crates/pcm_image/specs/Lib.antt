pub mod Formats
pub mod Saved
pub mod Spelling
pub mod Reading
pub mod Standing
pub mod Giving
