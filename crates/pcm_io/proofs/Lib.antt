-- Lemmas for the crates above: on counts of faults, on bytes that several reads or writes moved, and on digits.
pub mod FaultLemmas
pub mod ByteLemmas
pub mod DigitLemmas
pub mod PrintLemmas
mod HexLanes
mod HexPushes
mod Places
