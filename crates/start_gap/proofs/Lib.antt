pub mod Turning
pub mod FullTurn
mod Worked
pub mod Places
