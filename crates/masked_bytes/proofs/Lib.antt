pub mod Truth
pub mod Turning
pub mod Counting
pub mod Lists
pub mod Layering
pub mod Queueing
pub mod Standing
pub mod Rows
