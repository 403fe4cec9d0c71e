pub mod Backlogs
pub mod Banks
pub mod Moments
pub mod Streams
