pub mod Tables
pub mod Serving
pub mod Splitting
pub mod LastCuts
