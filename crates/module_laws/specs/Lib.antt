pub mod Asking
pub mod Serves
