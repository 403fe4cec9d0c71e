pub mod Follows
pub mod Planes
pub mod Counts
pub mod Seeded
pub mod Drawn
pub mod Young
