-- How texts are written.
pub mod Written
