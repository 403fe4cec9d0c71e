pub mod Pieces
mod Agreeing
mod Beginning
