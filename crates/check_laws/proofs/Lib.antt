mod Renaming
mod Timing
mod InBanks
mod Judged
pub mod Soon
