-- Numbers that are read are spelled so.
use Rattle.std.proofs.Common.{◌≡◌, ℕ, ◌+◌, ◌<◌, ◌≤◌, List, ◌++◌, length, get_or, take, drop, sym, ap, ◌∙◌, refl, inl, inr, arith}
use Rattle.std.proofs.{lemmas.Bool.cases_lt, lemmas.List.{drop-drop, get_or-drop, get_or-take, get_or_past, length-drop, length-take, take-append-drop}}
use Rattle.std.proofs.lemmas.Nat.{be_bytes_2, be_bytes_4, be_bytes_8}
use Rattle.nbd_frames.specs.Numbers.{two, four, eight, two_at, four_at, eight_at}

-- each is below 256
abbrev pub AreBytes : List ℕ → Type 0
AreBytes bytes = (i : ℕ) → get_or bytes i 0 < 256

pub dropped : (n : ℕ) (bytes : List ℕ) → AreBytes bytes → AreBytes (drop n bytes)
dropped n bytes are i = rw get_or-drop (are (n + i))

pub taken : (n : ℕ) (bytes : List ℕ) → AreBytes bytes → AreBytes (take n bytes)
taken n bytes are i =
    elim (cases_lt i n) [
      | inl lt ↦ rw (get_or-take n bytes i 0 lt) (are i)
      | inr le ↦ rw (get_or_past (take n bytes) i 0 (omega (arith, length-take n bytes))) (omega arith)
    ]

-- so many from a place on are so many
pub piece_length : (n at : ℕ) (bytes : List ℕ) → at + n ≤ length bytes → length (take n (drop at bytes)) ≡ n
piece_length n at bytes within = omega (arith, length-take n (drop at bytes), length-drop at bytes)

pub two_spelled : (bytes : List ℕ) (at : ℕ) → at + 2 ≤ length bytes → AreBytes bytes → two (two_at bytes at) ≡ take 2 (drop at bytes)
two_spelled bytes at within are =
    be_bytes_2 (take 2 (drop at bytes)) (two_at bytes at) (piece_length 2 at bytes within) (taken 2 (drop at bytes) (dropped at bytes are)) refl

pub four_spelled : (bytes : List ℕ) (at : ℕ) → at + 4 ≤ length bytes → AreBytes bytes → four (four_at bytes at) ≡ take 4 (drop at bytes)
four_spelled bytes at within are =
    be_bytes_4 (take 4 (drop at bytes)) (four_at bytes at) (piece_length 4 at bytes within) (taken 4 (drop at bytes) (dropped at bytes are)) refl

pub eight_spelled : (bytes : List ℕ) (at : ℕ) → at + 8 ≤ length bytes → AreBytes bytes → eight (eight_at bytes at) ≡ take 8 (drop at bytes)
eight_spelled bytes at within are =
    be_bytes_8 (take 8 (drop at bytes)) (eight_at bytes at) (piece_length 8 at bytes within) (taken 8 (drop at bytes) (dropped at bytes are)) refl

-- what stands from a place on is so many bytes, and what stands behind them
pub parted : (n at : ℕ) (bytes : List ℕ) → take n (drop at bytes) ++ drop (at + n) bytes ≡ drop at bytes
parted n at bytes = ap (λ (rest : List ℕ). take n (drop at bytes) ++ rest) (sym (drop-drop n at bytes)) ∙ take-append-drop n (drop at bytes)
