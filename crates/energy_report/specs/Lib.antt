-- What is told of the energy of lines together, and its report.
pub mod Sums
pub mod EnergyText
