pub mod Judged
mod Printed
pub mod Plain
mod Breaking
mod Behind
pub mod Asked
