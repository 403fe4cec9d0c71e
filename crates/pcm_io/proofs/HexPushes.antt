-- Digits that are pushed piece by piece.
use Rattle.std.proofs.Common.{◌≡◌, ℕ, zero, suc, ◌+◌, ◌*◌, ◌/◌, ◌%◌, ◌<◌, ◌≤◌, List, [], ◌∷◌, ◌++◌, length, take, drop, get_or, slice_index, refl, sym, ap, ◌∙◌, arith}
use Rattle.std.{specs.Simd.first_chunks, proofs.Math.Seq.take-add, proofs.lemmas.List.{append-nil, append_assoc, drop-drop, drop_more, get_or-drop, length-append, length-take-le}}
use Rattle.hex.{specs.Hex.{encode_lower, encode_with, lower_digits}, proofs.HexLemmas.length-encode_with}
use Rattle.pcm_io.specs.Reserved.{Reserved, appended, room_in}

-- the digits of some bytes, and of others behind them
encode_with-append : (t xs ys : List ℕ) → encode_with t (xs ++ ys) ≡ encode_with t xs ++ encode_with t ys
unfolding encode_with
encode_with-append t [] ys = refl
encode_with-append t (x ∷ xs) ys =
    ap (λ rest. slice_index t (x / 16) ∷ slice_index t (x % 16) ∷ rest) (encode_with-append t xs ys)

-- nothing yet
pub nothing : (t : Reserved) → t ≡ appended t (encode_lower [])
unfolding encode_with
nothing t = ap (λ bytes. record t { bytes = bytes }) (sym (append-nil t.bytes))

-- the block at i of those that a slice is cut into
pub block_at : (bytes : List ℕ) (blocks : List (List ℕ)) (count i : ℕ) (d : List ℕ) → blocks ≡ first_chunks 16 count bytes → i < count
    → get_or blocks i d ≡ take 16 (drop (i * 16) bytes)
block_at bytes blocks count i d are low = ap (λ l. get_or l i d) are ∙ within bytes count i low
  where
    within : (bytes : List ℕ) (count i : ℕ) → i < count → get_or (first_chunks 16 count bytes) i d ≡ take 16 (drop (i * 16) bytes)
    within bytes zero i low = absurd (omega arith)
    within bytes (suc count) zero low = refl
    within bytes (suc count) (suc i) low =
        let on : 16 + i * 16 ≡ suc i * 16 = omega arith in
        within (drop 16 bytes) count i (omega arith)
        ∙ ap (take 16) (drop-drop (i * 16) 16 bytes ∙ ap (λ k. drop k bytes) on)

-- the byte at i of those behind the first m
pub byte_at : (bytes rest : List ℕ) (m i : ℕ) → rest ≡ drop m bytes → m + i < length bytes → get_or rest i 0 ∷ [] ≡ take 1 (drop (m + i) bytes)
byte_at bytes rest m i is low =
    ap (λ l. get_or l i 0 ∷ []) is ∙ ap (λ b. b ∷ []) (get_or-drop m bytes i 0) ∙ sym (ap (take 1) (drop_more bytes (m + i) 0 low))

-- the room behind the digits of the first i bytes
pub room_behind : (t u : Reserved) (bytes : List ℕ) (b i : ℕ) → length bytes ≡ b → 2 * b ≤ room_in t → i ≤ b
    → u ≡ appended t (encode_lower (take i bytes)) → room_in u + 2 * i ≡ room_in t
room_behind t u bytes b i long room within so_far =
    let digits = length-encode_with lower_digits (take i bytes) in
    let firsts = length-take-le i bytes (omega (arith, long)) in
    let all = length-append t.bytes (encode_lower (take i bytes)) in
    rw so_far (omega (arith, digits, firsts, all, room))

-- n bytes more behind the first i
module _ (t u : Reserved) (bytes piece digits : List ℕ) (b i n : ℕ) (long : length bytes ≡ b) (within : i + n ≤ b)
    (so_far : u ≡ appended t (encode_lower (take i bytes))) (next : piece ≡ take n (drop i bytes)) (are : digits ≡ encode_lower piece) where
  both : encode_lower (take (i + n) bytes) ≡ encode_lower (take i bytes) ++ digits
  both =
      ap encode_lower (take-add i n bytes) ∙ encode_with-append lower_digits (take i bytes) (take n (drop i bytes))
      ∙ ap (λ l. encode_lower (take i bytes) ++ l) (sym (are ∙ ap encode_lower next))

  -- they fit
  pub more_fit : 2 * b ≤ room_in t → length digits ≤ room_in u
  more_fit room =
      let now = length-encode_with lower_digits (take i bytes) in
      let firsts = length-take-le i bytes (omega (arith, long)) in
      let then = length-encode_with lower_digits (take (i + n) bytes) in
      let more = length-take-le (i + n) bytes (omega (arith, long)) in
      let sum = ap length both ∙ length-append (encode_lower (take i bytes)) digits in
      let left = room_behind t u bytes b i long room (omega (arith, within)) so_far in
      omega (arith, now, firsts, then, more, sum, left, room)

  -- and then stand behind the others
  pub more_pushed : {v : Reserved} (j : ℕ) → v ≡ appended u digits → j ≡ i + n → v ≡ appended t (encode_lower (take j bytes))
  more_pushed j pushed at =
      pushed ∙ ap (λ w. appended w digits) so_far
      ∙ ap (λ l. record t { bytes = l }) (append_assoc t.bytes (encode_lower (take i bytes)) digits ∙ ap (λ l. t.bytes ++ l) (sym both))
      ∙ ap (λ k. appended t (encode_lower (take k bytes))) (sym at)
