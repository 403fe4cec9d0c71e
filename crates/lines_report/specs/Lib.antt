-- The bytes of the report on array lines.
pub mod LinesText
