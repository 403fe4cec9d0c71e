pub mod Rows
mod Spares
mod Promise
