-- What the contracts of the texts of `map` and `moves` cite.
pub mod Rows
pub mod MapText
pub mod MovesText
