-- What the contracts of a printer of rows cite.
pub mod Telling
pub mod Snapshots
pub mod Refusing
pub mod Printing
pub mod GoingOn
