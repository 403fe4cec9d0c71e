pub mod Placing
mod Hearing
mod Masking
mod Asking
mod Making
mod Reading
mod Disks
mod Cutting
mod Staying
