pub mod Places
pub mod Placing
pub mod Hearing
pub mod Cutting
pub mod Asking
pub mod Lines
pub mod Serving
