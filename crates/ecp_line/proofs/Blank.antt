-- A line that was powered up.
use Rattle.std.proofs.Common.{◌≡◌, ℕ, zero, suc, ◌+◌, ◌*◌, Bool, false, List, ◌∷◌, replicate, refl, ap, ◌∙◌, arith}
use Rattle.cell_rows.specs.{Rows.cell, declared.row.Cells.Cells}
use Rattle.ecp_line.{specs.Layout.{active, number, source, decoded, full_cell, activity_cell, Sound}, specs.Reading.{bytes_from, decode}, proofs.Activity.active-is}
use Rattle.ecp_line.proofs.Digits.{number-zero, number-none}

pub active-blank : (B E : ℕ) (f : ℕ → Bool) → ((n : ℕ) → f n ≡ false) → active B E f ≡ 0
active-blank B E f none = active-is B E f 0 (none (full_cell B E)) (omega arith) (λ i l. absurd (omega arith)) (λ l. none (activity_cell B E + 0))

-- no entry is relied on, so it is sound whatever is stuck
pub Sound-blank : (B M E : ℕ) (f stuck : ℕ → Bool) → ((n : ℕ) → f n ≡ false) → Sound B M E f stuck
Sound-blank B M E f stuck none j le = let e = active-blank B E f none in omega arith

-- and it is read as zeros
pub decoded-blank : (B E : ℕ) (f : ℕ → Bool) → ((n : ℕ) → f n ≡ false) → (x : ℕ) → decoded B E f x ≡ false
decoded-blank B E f none x = none (source B E f x)

number-blank : (bit : ℕ → Bool) (from n : ℕ) → ((i : ℕ) → bit i ≡ false) → number bit from n ≡ 0
number-blank bit from zero none = number-none bit from
number-blank bit from (suc n) none =
    let e : suc n ≡ n + 1 = omega arith in ap (number bit from) e ∙ number-zero bit from n (none (from + n)) ∙ number-blank bit from n none

bytes-blank : (bit : ℕ → Bool) (k n : ℕ) → ((i : ℕ) → bit i ≡ false) → bytes_from bit k n ≡ replicate n 0
bytes-blank bit k zero none = refl
bytes-blank bit k (suc n) none =
    ap (λ (x : ℕ). x ∷ bytes_from bit (k + 1) n) (number-blank bit (8 * k) 8 none) ∙ ap (λ (xs : List ℕ). 0 ∷ xs) (bytes-blank bit (k + 1) n none)

pub decode-blank : {B M : ℕ} (E : ℕ) (row : Cells B M) → ((n : ℕ) → cell row n ≡ false) → decode E row ≡ replicate B 0
unfolding decode
decode-blank {B} E row none = bytes-blank (decoded B E (cell row)) 0 B (decoded-blank B E (cell row) none)
