-- What the fourth field of a write gives.
use Rattle.std.specs.{List.list_any, Option.option_and_then}
use Rattle.std.specs.{Prelude.{◌≡◌, ℕ, min, ◌==◌, ◌&&◌, Bool, if◌then◌else◌, List, [], ◌∷◌, length, map, Option, Some, None, option_map, unwrap_or, is_some}, Result.result_ok}
use Rattle.hex.specs.Hex.{decode_sized, pair_value}

-- the n bytes that 2n hexadecimal digits of either case write
unfoldable pub bytes_of : ℕ → List ℕ → Option (List ℕ)
bytes_of n text = result_ok (decode_sized text n)

-- what `hex` says of a character behind a zero: the value of a digit, 255 of any other
unfoldable pub value_of : ℕ → ℕ
value_of c = unwrap_or (result_ok (pair_value 48 c 0)) 255

-- this number tells what a character is as a digit: its value, or 16 and more where it is none
abbrev pub Tells : ℕ → ℕ → Type 0
Tells c value = min value 16 ≡ min (value_of c) 16

-- what two characters say of a byte: `..` that it isn't given, two hexadecimal digits what it is
unfoldable pub pair_of : ℕ → ℕ → Option (Option ℕ)
pair_of high low =
    if (high == 46) && (low == 46) then Some None
    else option_map (λ byte. Some byte) (result_ok (pair_value high low 0))

-- what a text of such pairs says, byte after byte
unfoldable pub pairs_of : List ℕ → Option (List (Option ℕ))
pairs_of [] = Some []
pairs_of (odd ∷ []) = None
pairs_of (high ∷ low ∷ rest) = option_and_then (λ pair. option_map (λ pairs. pair ∷ pairs) (pairs_of rest)) (pair_of high low)

-- the bytes of a masked write, 0 where one isn't given, and which are given
pub record Masked : Type 0 where
  pub bytes : List ℕ
  pub given : List Bool

abbrev pub masked_by : List (Option ℕ) → Masked
masked_by pairs = record { bytes = map (λ pair. unwrap_or pair 0) pairs; given = map is_some pairs }

-- what n pairs say, if they give at least one byte
unfoldable pub masked_of : ℕ → List ℕ → Option Masked
masked_of n text =
    option_and_then (λ pairs. if (length pairs == n) && list_any is_some pairs then Some (masked_by pairs) else None) (pairs_of text)
