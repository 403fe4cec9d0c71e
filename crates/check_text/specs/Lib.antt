-- What a text that has a trace and its results is judged by.
pub mod Checked
pub mod Causes
pub mod VerdictText
pub mod PrintedLaw
pub mod SplitLaw
