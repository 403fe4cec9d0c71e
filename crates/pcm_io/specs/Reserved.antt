-- Bytes in memory that was reserved before.
use Rattle.std.specs.Prelude.{ℕ, ◌-◌, List, [], ◌++◌, length}

-- the bytes so far, and how many there may be
pub record Reserved : Type 0 where
  pub bytes : List ℕ
  pub limit : ℕ

-- nothing yet, in room for so many bytes
abbrev pub reserved : ℕ → Reserved
reserved limit = record { bytes = []; limit = limit }

-- how many bytes still fit
abbrev pub room_in : Reserved → ℕ
room_in text = text.limit - length text.bytes

-- the text with these bytes behind it
abbrev pub appended : Reserved → List ℕ → Reserved
appended text bytes = record text { bytes = text.bytes ++ bytes }
