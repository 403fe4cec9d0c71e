-- Lemmas on numbers in bytes, requests and options.
pub mod Spelling
pub mod Requests
pub mod Options
