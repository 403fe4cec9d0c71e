pub mod SavesRun
pub mod SavedBanks
pub mod Queued
pub mod Saving
pub mod SensedSince
