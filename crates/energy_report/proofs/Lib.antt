pub mod EnergyLemmas
