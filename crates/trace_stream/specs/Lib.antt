-- What the contracts of streamed traces cite.
pub mod Arrived
pub mod Machine
pub mod Room
pub mod Kept
pub mod Requests
pub mod Asked
pub mod Stream
pub mod Laws
