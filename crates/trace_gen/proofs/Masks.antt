-- The characters of a masked write are read as its bytes.
use Rattle.std.proofs.Common.{◌≡◌, ℕ, suc, ◌+◌, ◌*◌, ◌/◌, ◌%◌, ◌<◌, ◌==◌, Bool, true, false, List, [], ◌∷◌, ◌++◌, length, get_or, map, Option, Some, None, unwrap_or, is_some, refl, sym, ap, ◌∙◌, inl, inr, arith}
use Rattle.std.{specs.List.list_any, specs.Prelude.{if◌then◌else◌}, proofs.lemmas.Bool.{and_parts, cases_Bool, eqb-true}, proofs.lemmas.Bool.Decides.nat_tests}
use Rattle.hex.{specs.Hex.{IsBytes, encode_with, hex_digit_value, lower_digits}, proofs.HexLemmas.IsDigits-lower_digits}
use Rattle.masked_bytes.specs.Masked.{IsMasked, zero_elsewhere}
use Rattle.trace_reader.specs.Payload.{masked_of, pair_of, pairs_of}
use Rattle.trace_gen.specs.EventText.{masked_text, pair_text}

-- what a masked write says byte by byte
abbrev pub pair_for : ℕ → Bool → Option ℕ
pair_for byte given = if given then Some byte else None

abbrev pub pairs_for : List ℕ → List Bool → List (Option ℕ)
pairs_for [] given = []
pairs_for (byte ∷ bytes) [] = []
pairs_for (byte ∷ bytes) (g ∷ given) = pair_for byte g ∷ pairs_for bytes given

-- a digit is no dot
digit-no_dot : (d : ℕ) → d < 16 → (get_or lower_digits d 0 == 46) ≡ false
digit-no_dot d small = elim (cases_Bool (get_or lower_digits d 0 == 46)) [
  | inl same ↦
      let dot : get_or lower_digits d 0 ≡ 46 = eqb-true (get_or lower_digits d 0) 46 same in
      let bad : Some d ≡ None = sym (IsDigits-lower_digits d small) ∙ ap hex_digit_value dot in
      cc bad
  | inr other ↦ other
]

-- the two digits of a byte
pair-read : (byte : ℕ) → byte < 256 → pair_of (get_or lower_digits (byte / 16) 0) (get_or lower_digits (byte % 16) 0) ≡ Some (Some byte)
unfolding pair_of
pair-read byte small =
    let high : byte / 16 < 16 = omega arith in
    let low : byte % 16 < 16 = omega arith in
    let whole : byte / 16 * 16 + byte % 16 ≡ byte = omega arith in
    let dots = digit-no_dot (byte / 16) high in
    let a = IsDigits-lower_digits (byte / 16) high in
    let b = IsDigits-lower_digits (byte % 16) low in
    rw (dots, a, b) (ap (λ (v : ℕ). Some (Some v)) whole)

-- the characters of one byte, with what stands behind them
pair-behind : (byte : ℕ) (given : Bool) (behind : List ℕ) (pairs : List (Option ℕ)) → byte < 256 → pairs_of behind ≡ Some pairs
    → pairs_of (pair_text byte given ++ behind) ≡ Some (pair_for byte given ∷ pairs)
unfolding pairs_of encode_with pair_of
pair-behind byte false behind pairs small rest = rw rest refl
pair-behind byte true behind pairs small rest = rw (pair-read byte small, rest) refl

-- the characters of all bytes
pub pairs-read : (bytes : List ℕ) (given : List Bool) → IsBytes bytes → pairs_of (masked_text bytes given) ≡ Some (pairs_for bytes given)
unfolding masked_text pairs_of
pairs-read [] given small = refl
pairs-read (byte ∷ bytes) [] small = refl
pairs-read (byte ∷ bytes) (g ∷ given) small = pair-behind byte g (masked_text bytes given) (pairs_for bytes given) (small 0) (pairs-read bytes given (λ i. small (suc i)))

-- these say which bytes are given
pairs-given : (bytes : List ℕ) (given : List Bool) → length bytes ≡ length given → map is_some (pairs_for bytes given) ≡ given
pairs-given [] [] size = refl
pairs-given [] (g ∷ given) size = absurd (omega arith)
pairs-given (byte ∷ bytes) [] size = absurd (omega arith)
pairs-given (byte ∷ bytes) (true ∷ given) size = ap (λ (gs : List Bool). true ∷ gs) (pairs-given bytes given (omega arith))
pairs-given (byte ∷ bytes) (false ∷ given) size = ap (λ (gs : List Bool). false ∷ gs) (pairs-given bytes given (omega arith))

-- and the bytes, where those that are not given are 0
pairs-bytes : (bytes : List ℕ) (given : List Bool) → length bytes ≡ length given → zero_elsewhere bytes given ≡ true → map (λ pair. unwrap_or pair 0) (pairs_for bytes given) ≡ bytes
pairs-bytes [] given size zeros = refl
pairs-bytes (byte ∷ bytes) [] size zeros = absurd (omega arith)
pairs-bytes (byte ∷ bytes) (true ∷ given) size zeros = ap (λ (bs : List ℕ). byte ∷ bs) (pairs-bytes bytes given (omega arith) zeros)
pairs-bytes (byte ∷ bytes) (false ∷ given) size zeros =
    let parts = and_parts (byte == 0) (zero_elsewhere bytes given) zeros in
    let none : byte ≡ 0 = eqb-true byte 0 parts.0 in
    rw (pairs-bytes bytes given (omega arith) parts.1) (ap (λ (b : ℕ). b ∷ bytes) (sym none))

pairs-length : (bytes : List ℕ) (given : List Bool) → length bytes ≡ length given → length (pairs_for bytes given) ≡ length bytes
pairs-length [] given size = refl
pairs-length (byte ∷ bytes) [] size = absurd (omega arith)
pairs-length (byte ∷ bytes) (g ∷ given) size = ap suc (pairs-length bytes given (omega arith))

any-given : (bytes : List ℕ) (given : List Bool) → length bytes ≡ length given → list_any is_some (pairs_for bytes given) ≡ list_any (λ g. g) given
any-given [] [] size = refl
any-given [] (g ∷ given) size = absurd (omega arith)
any-given (byte ∷ bytes) [] size = absurd (omega arith)
any-given (byte ∷ bytes) (true ∷ given) size = refl
any-given (byte ∷ bytes) (false ∷ given) size = any-given bytes given (omega arith)

-- a masked write's characters are read as its bytes and as those that it gives
pub masked-read : (n : ℕ) (bytes : List ℕ) (given : List Bool) → IsMasked n bytes given → IsBytes bytes
    → masked_of n (masked_text bytes given) ≡ Some (record { bytes = bytes; given = given })
unfolding masked_of
masked-read n bytes given masked small =
    let in_bytes : length bytes ≡ n = masked.bytes_len in
    let in_given : length given ≡ n = masked.given_len in
    let size : length bytes ≡ length given = omega arith in
    let many : length (pairs_for bytes given) ≡ n = pairs-length bytes given size ∙ in_bytes in
    let all : (length (pairs_for bytes given) == n) ≡ true = grind (arith, nat_tests) in
    let some : list_any is_some (pairs_for bytes given) ≡ true = any-given bytes given size ∙ masked.some in
    rw (pairs-read bytes given small, all, some, pairs-given bytes given size, pairs-bytes bytes given size masked.others) refl
