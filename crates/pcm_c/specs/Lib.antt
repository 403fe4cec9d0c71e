pub mod Answers
pub mod Calls
pub mod Lending
pub mod Opening
pub mod Owning
pub mod Telling
