-- What the contracts of the words of a stream cite.
pub mod Table
pub mod Options
pub mod Jobs
pub mod Arrays
