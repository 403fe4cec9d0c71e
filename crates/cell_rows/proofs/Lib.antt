pub mod ByteLemmas
pub mod BlockLemmas
pub mod WordLemmas
pub mod RowLemmas
pub mod LaneLemmas
pub mod Most
