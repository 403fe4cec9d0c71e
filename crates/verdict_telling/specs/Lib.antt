-- What is told of a verdict.
pub mod Offers
pub mod Earned
pub mod Explained
