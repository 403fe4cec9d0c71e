pub mod LineLemmas
pub mod ScriptedLemmas
pub mod SeededLemmas
pub mod EnduranceLemmas
pub mod LoggingLemmas
pub mod EnergyLemmas
