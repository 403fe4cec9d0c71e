-- What the counts of energy say of changes.
pub mod Changes
