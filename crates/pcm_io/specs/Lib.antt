-- What the contracts of sources, sinks and texts cite.
pub mod Faults
pub mod Taking
pub mod Giving
pub mod Schedule
pub mod Stock
pub mod Supply
pub mod Reserved
pub mod Receipt
