-- What the contracts of printing a run cite.
pub mod Gathering
pub mod ResultText
pub mod Counting
pub mod Pulses
pub mod SummaryText
pub mod Laws
pub mod Shortfall
pub mod WearText
