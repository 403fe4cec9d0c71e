-- What the contracts of the words of a disk cite.
pub mod Table
pub mod Layouts
pub mod Cuts
pub mod Options
pub mod Jobs
