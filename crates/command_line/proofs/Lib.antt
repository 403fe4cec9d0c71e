mod Tables
pub mod Reading
pub mod Steps
