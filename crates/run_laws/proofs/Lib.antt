pub mod Mixing
pub mod Banks
pub mod Finished
pub mod Lifting
mod Facts
mod Rows
pub mod Roles
mod Lasting
