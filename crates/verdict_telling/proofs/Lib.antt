mod Banks
mod Lines
mod RightReads
mod RightWrites
mod Rightly
mod Earning
mod Tables
mod Named
mod Telling
pub mod Sizes
