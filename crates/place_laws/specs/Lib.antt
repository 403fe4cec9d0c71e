pub mod PlaceLaws
pub mod GapMoves
