-- The clauses that rows break.
pub mod Broken
pub mod ByFinds
pub mod Rooms
pub mod Counts
pub mod Others
