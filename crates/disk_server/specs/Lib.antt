-- What the contracts of a disk's server cite.
pub mod Exchanges
pub mod Messages
pub mod Reading
pub mod Endings
pub mod Answering
pub mod Sessions
