-- What is told of a row that breaks a rule.
pub mod Clauses
pub mod Givers
pub mod Grounds
pub mod Right
pub mod RightWrites
pub mod Standing
pub mod Steps
pub mod WriteGrounds
