-- The room in which the fields of a record are kept.
use Rattle.std.specs.Prelude.{◌≡◌, ◌≤◌, ℕ, List, length, map, take, get_or, All}
use Rattle.pcm_io.specs.Reserved.{Reserved, reserved}

-- the bytes of each of the first so many texts
abbrev pub first_bytes : ℕ → List Reserved → List (List ℕ)
first_bytes count texts = map (λ text. text.bytes) (take count texts)

-- the bytes of the text of this number, none where there is no text
abbrev pub bytes_at : List Reserved → ℕ → List ℕ
bytes_at texts index = (get_or texts index (reserved 257)).bytes

-- a text has room for 257 bytes
pub record IsFieldRoom (text : Reserved) : Type 0 where
  pub limit : text.limit ≡ 257
  pub within : length text.bytes ≤ 257

-- there is room for five fields
pub record IsRoom (texts : List Reserved) : Type 0 where
  pub five : length texts ≡ 5
  pub each : All IsFieldRoom texts
