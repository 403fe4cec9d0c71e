-- What a pulse or a tear of some cells leaves.
use Rattle.std.proofs.Common.{◌≡◌, ℕ, ◌<◌, ◌≤◌, Bool, true, false, sym}
use Rattle.std.proofs.lemmas.Bool.{false_from_ne_true}
use Rattle.ecp_line.{specs.Layout.{pointer, pointer_cell, replacement_cell, Prefix}, proofs.Digits.pointer-same, proofs.Inert.Prefix-kept}

-- the cells outside, and those that were stuck
pub record Leaves (which f s g t : ℕ → Bool) : Type 0 where
  pub others : (n : ℕ) → which n ≡ false → g n ≡ f n
  pub held : (n : ℕ) → s n ≡ true → g n ≡ f n
  pub stuck : (n : ℕ) → s n ≡ true → t n ≡ true

-- the pointers of entries whose pointer cells are not touched stay
pub pointers-left : (B w : ℕ) (which f s g t : ℕ → Bool) → Leaves which f s g t
    → ((i n : ℕ) → i < w → pointer_cell B i ≤ n → n < replacement_cell B i → which n ≡ true → ⊥)
    → (i : ℕ) → i < w → pointer B f i ≡ pointer B g i
pointers-left B w which f s g t leaves apart i l =
    pointer-same B f g i (λ n low high. sym (leaves.others n (false_from_ne_true (which n) (apart i n l low high))))

-- and so does what these entries are charged to
pub Prefix-left : (B M w : ℕ) (which f s g t : ℕ → Bool) → Leaves which f s g t
    → ((i n : ℕ) → i < w → pointer_cell B i ≤ n → n < replacement_cell B i → which n ≡ true → ⊥)
    → Prefix B M f s w → Prefix B M g t w
Prefix-left B M w which f s g t leaves apart before =
    Prefix-kept B M f g s t w (pointers-left B w which f s g t leaves apart) leaves.stuck before
