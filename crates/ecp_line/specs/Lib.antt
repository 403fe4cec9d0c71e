pub mod Layout
pub mod Reading
pub mod Steps
pub mod ArrayLines
pub mod Untouched
