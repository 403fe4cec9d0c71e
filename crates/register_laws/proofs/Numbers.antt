-- What a control line is read as.
use Rattle.std.proofs.Common.{◌≡◌, ℕ, ◌+◌, ◌-◌, ◌^◌, ◌<◌, ◌≤◌, List, [], ◌∷◌, replicate, sym, ap, ◌∙◌, arith}
use Rattle.std.{specs.Int.{w32, to_le_bytes, from_le_bytes}, proofs.lemmas.List.replicate-append-replicate, proofs.lemmas.Nat.from_le_bytes-to_le_bytes_4}
use Rattle.reg_lines.specs.Values.{encoded, values_in}

-- three numbers of four bytes
pub record AreShort (values : List ℕ) : Type 0 where
  pub first : ℕ
  pub second : ℕ
  pub third : ℕ
  pub is : values ≡ first ∷ second ∷ third ∷ []
  pub few_first : first < 2 ^ 32
  pub few_second : second < 2 ^ 32
  pub few_third : third < 2 ^ 32

-- that were written are read back
pub values-encoded : (n : ℕ) (values : List ℕ) → AreShort values → values_in (encoded n values) ≡ values
values-encoded n values short =
    ap (λ (xs : List ℕ). values_in (encoded n xs)) short.is
    ∙ ap (λ (x : ℕ). x ∷ from_le_bytes w32 (to_le_bytes w32 short.second) ∷ from_le_bytes w32 (to_le_bytes w32 short.third) ∷ []) (from_le_bytes-to_le_bytes_4 short.first short.few_first)
    ∙ ap (λ (x : ℕ). short.first ∷ x ∷ from_le_bytes w32 (to_le_bytes w32 short.third) ∷ []) (from_le_bytes-to_le_bytes_4 short.second short.few_second)
    ∙ ap (λ (x : ℕ). short.first ∷ short.second ∷ x ∷ []) (from_le_bytes-to_le_bytes_4 short.third short.few_third)
    ∙ sym short.is

-- and a line of zeros is read as zeros
pub values-zeros : (n : ℕ) → 12 ≤ n → values_in (replicate n 0) ≡ 0 ∷ 0 ∷ 0 ∷ []
values-zeros n room =
    let split : n ≡ 12 + (n - 12) = omega (arith, room) in
    ap (λ (k : ℕ). values_in (replicate k 0)) split
    ∙ ap (λ (xs : List ℕ). values_in xs) (sym (replicate-append-replicate 12 (n - 12) 0))
