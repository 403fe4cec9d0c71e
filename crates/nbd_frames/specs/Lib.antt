-- What the contracts of the frames of NBD cite.
pub mod Numbers
pub mod Requests
pub mod Options
