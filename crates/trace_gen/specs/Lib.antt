-- What the contracts of generated traces cite.
pub mod Generated
pub mod Drawing
pub mod EventText
pub mod Laws
