mod Bools
mod Counted
pub mod ReadClauses
pub mod WriteClauses
pub mod Rooms
