-- Where the entries stand to each other.
use Rattle.std.proofs.Common.{◌≡◌, ℕ, ◌+◌, ◌-◌, ◌*◌, ◌^◌, ◌<◌, ◌≤◌, Bool, inl, inr, arith, subst}
use Rattle.std.proofs.{Math.Nat.mul-le-mul_right, lemmas.Bool.cases_order}
use Rattle.ecp_line.{specs.Layout.{width, pointer_cell, replacement_cell, full_cell, activity_cell, pointer, IsLayout}, proofs.Digits.number-lt}

-- the cells of an entry stand before those of the next
pub entry-order : (B i k : ℕ) → i < k → replacement_cell B i < pointer_cell B k
entry-order B i k h = let t : (i + 1) * (width B + 1) ≤ k * (width B + 1) = mul-le-mul_right (width B + 1) (omega arith) in omega arith

-- no two entries share their replacement cell
pub replacement-same : (B i k : ℕ) → replacement_cell B i ≡ replacement_cell B k → i ≡ k
replacement-same B i k e =
    elim (cases_order i k) as (λ _. i ≡ k) [
      | inl same ↦ same
      | inr (inl low) ↦ let t = entry-order B i k low in absurd (omega arith)
      | inr (inr high) ↦ let t = entry-order B k i high in absurd (omega arith)
    ]

-- a pointer gives a bit of the line
pub pointer-lt : (B : ℕ) (f : ℕ → Bool) (i : ℕ) → 2 ^ width B ≡ 8 * B → pointer B f i < 8 * B
pointer-lt B f i digits = subst (λ (n : ℕ). pointer B f i < n) digits (number-lt f (pointer_cell B i) (width B))

-- the cells of the entries are check cells that exist
pub full-lt : (B M E : ℕ) → IsLayout B M E → full_cell B E < 8 * (B + M)
full-lt B M E layout = let t = layout.room in omega arith

-- an activity cell is a pointer cell of the last entry
pub activity-lt : (B M E i : ℕ) → IsLayout B M E → i < E - 1 → activity_cell B E + i < replacement_cell B (E - 1)
activity-lt B M E i layout h = let t = layout.most in omega arith

-- entries that are no more stand no further
pub entries-order : (B i k : ℕ) → i ≤ k → pointer_cell B i ≤ pointer_cell B k
entries-order B i k h = let t : i * (width B + 1) ≤ k * (width B + 1) = mul-le-mul_right (width B + 1) h in omega arith
