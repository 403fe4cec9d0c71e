pub mod Cell
pub mod Scripted
pub mod Logging
pub mod Logged
pub mod Energies
pub mod Seeded
pub mod Endurance
