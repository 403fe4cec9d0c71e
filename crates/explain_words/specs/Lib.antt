-- What the contracts of the words of an explanation cite.
pub mod Table
pub mod Jobs
