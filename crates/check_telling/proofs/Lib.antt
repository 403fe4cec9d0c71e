pub mod Clauses
mod Right
mod RightWrites
pub mod Folds
mod Givers
mod Stands
mod Banks
mod Ends
mod Bounds
mod Finds
pub mod FindsWrites
pub mod Sizes
