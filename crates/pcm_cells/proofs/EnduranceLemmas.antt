-- A seeded cell sticks only after as many pulses of its line as it endures changes, and misses no more often than its limit.
use Rattle.std.proofs.Common.{◌≡◌, ℕ, ◌+◌, ◌-◌, ◌*◌, ◌%◌, ◌^◌, ◌<◌, ◌≤◌, ◌&&◌, min, Bool, true, false, List, [], length, get_or, refl, sym, subst, arith, cond, inl, inr, true≢false, ◌∙◌, Some}
use Rattle.std.{specs.Prelude.{nat_lt, nat_le, nat_eq, IsFalse}, proofs.lemmas.Bool.{leb-true, leb-false, ltb-true, cases_eq, cases_lt}}
use Rattle.cell_rows.specs.{Device.{CellBounds, counted}, Rows.cell, declared.array.Wear.Wear, declared.row.Cells.Cells}
use Rattle.pcm_cells.{specs.Endurance.{IsBounded, AreBounded}, specs.Seeded.{SeededArray, Wears, bounds_of, life_state, seeded_line}, proofs.LineLemmas.KeepsTo}
use Rattle.seeded_lines.specs.{Seeded.{LifeLine, IsDrawn, changed, lifeless, pulsed, seeded, seeded_cell}, declared.seeded.SeededCell.SeededCell}

-- one more pulse, up to the greatest count
more-pulses : (lo p top : ℕ) → lo ≤ p → lo ≤ top → lo ≤ min (p + 1) top
more-pulses lo p top le few = omega (arith, le, few)

spent-pulse : (lo left p top : ℕ) → lo ≤ left + p → lo ≤ top → lo ≤ left + min (p + 1) top
spent-pulse lo left p top le few = omega (arith, le, few)

last-pulse : (lo left p top : ℕ) → lo ≤ left + p → left ≤ 1 → lo ≤ top → lo ≤ min (p + 1) top
last-pulse lo left p top le last few = omega (arith, le, last, few)

next-pulse : (lo left p top : ℕ) → lo ≤ left + p → 1 < left → lo ≤ top → lo ≤ left - 1 + min (p + 1) top
next-pulse lo left p top le more few = omega (arith, le, more, few)

least-of : (a b : ℕ) → min a b ≤ b
least-of a b = omega arith

module _ (bounds : CellBounds) (few : bounds.endures ≤ 2 ^ 64 - 1) (p : ℕ) where
  bounded-kept : (c : SeededCell) → IsBounded bounds p c → IsBounded bounds (counted p) c
  bounded-kept c s = record {
    live = λ is. spent-pulse bounds.endures c.left p (2 ^ 64 - 1) (s.live is) few;
    stuck = λ is. more-pulses bounds.endures p (2 ^ 64 - 1) (s.stuck is) few;
    missed = s.missed;
    limit = s.limit;
  }

  bounded-changed : (want : Bool) (c : SeededCell) → IsFalse c.state.stuck → IsBounded bounds p c → IsBounded bounds (counted p) (changed want c)
  bounded-changed want c live s = by (nat_le c.left 1) refl
    where
      by : (b : Bool) → nat_le c.left 1 ≡ b
          → IsBounded bounds (counted p) (cond b (record c { state = record { value = c.end; stuck = true; misses = 0 }; left = 0 }) (record c { state = record { value = want; stuck = false; misses = 0 }; left = c.left - 1 }))
      by true le = record {
        live = λ is. absurd (cc (is));
        stuck = λ is. last-pulse bounds.endures c.left p (2 ^ 64 - 1) (s.live live) (leb-true c.left 1 le) few;
        missed = omega arith;
        limit = s.limit;
      }
      by false gt = record {
        live = λ is. next-pulse bounds.endures c.left p (2 ^ 64 - 1) (s.live live) (leb-false c.left 1 gt) few;
        stuck = λ is. absurd (cc (is));
        missed = omega arith;
        limit = s.limit;
      }

  bounded-pulsed : (want : Bool) (c : SeededCell) → IsBounded bounds p c → IsBounded bounds (counted p) (pulsed want c)
  bounded-pulsed want c s = by c.state.stuck (nat_lt c.state.misses c.limit) refl refl
    where
      by : (b m : Bool) → c.state.stuck ≡ b → nat_lt c.state.misses c.limit ≡ m
          → IsBounded bounds (counted p) (cond b c (cond m (record c { state = record c.state { misses = c.state.misses + 1 } }) (changed want c)))
      by true m is below = bounded-kept c s
      by false true is below = record {
        live = λ no. spent-pulse bounds.endures c.left p (2 ^ 64 - 1) (s.live no) few;
        stuck = λ no. more-pulses bounds.endures p (2 ^ 64 - 1) (s.stuck no) few;
        missed = omega (arith, ltb-true _ _ below);
        limit = s.limit;
      }
      by false false is below = bounded-changed want c is s

  bounded-seeded : (tearing : Bool) (want : ℕ → Bool) (n : ℕ) (c : SeededCell) → IsBounded bounds p c → IsBounded bounds (counted p) (seeded tearing want n c)
  bounded-seeded tearing want n c s = by (tearing && nat_eq (n % 2) 1)
    where
      by : (b : Bool) → IsBounded bounds (counted p) (cond b c (pulsed (want n) c))
      by true = bounded-kept c s
      by false = bounded-pulsed (want n) c s

  bounded-masked : (b tearing : Bool) (want : ℕ → Bool) (n : ℕ) (c : SeededCell) → IsBounded bounds p c → IsBounded bounds (counted p) (cond b (seeded tearing want n c) c)
  bounded-masked true tearing want n c s = bounded-seeded tearing want n c s
  bounded-masked false tearing want n c s = bounded-kept c s

pub bounded_none : (B M : ℕ) (bounds : CellBounds) → AreBounded {B = B} {M = M} bounds []
unfolding AreBounded
bounded_none B M bounds line n exists within = absurd (omega (arith, exists))

-- so it is as the array is powered up
pub bounded_new : {B M : ℕ} (wear : Wear) (lines : List (LifeLine B M))
    → ((line : ℕ) → line < length lines → IsDrawn wear line (get_or lines line (lifeless B M))) → AreBounded (bounds_of (Some wear)) lines
unfolding AreBounded
bounded_new {B} {M} wear lines drawn line n exists within =
    let new : IsDrawn wear line (get_or lines line (lifeless B M)) = drawn line exists in
    subst (λ c. IsBounded (bounds_of (Some wear)) (get_or lines line (lifeless B M)).line.pulses c) (sym (new.cells n within))
    (record { live = λ is. omega arith; stuck = λ is. absurd (cc (is)); missed = omega arith; limit = least-of _ _ })

-- a pulse and a tear keep it
pub bounded_kept : {B M : ℕ} (bounds : CellBounds) (at : ℕ) (tearing : Bool) (mask want : Cells B M) (old new : SeededArray B M) → bounds.endures < 2 ^ 64
    → Wears at tearing mask want old new → AreBounded bounds old.lines → AreBounded bounds new.lines
unfolding AreBounded
bounded_kept {B} {M} bounds at tearing mask want old new few w s line n exists within =
    let before : line < length old.lines = omega (arith, w.lines, exists) in
    elim (cases_eq line at) [
      | inl same ↦
          let here : IsBounded bounds (seeded_line old at).line.pulses (seeded_cell (seeded_line old at) n) = subst (λ l. IsBounded bounds (seeded_line old l).line.pulses (seeded_cell (seeded_line old l) n)) same (s line n before within) in
          let step : IsBounded bounds (counted (seeded_line old at).line.pulses) (cond (cell mask n) (seeded tearing (cell want) n (seeded_cell (seeded_line old at) n)) (seeded_cell (seeded_line old at) n)) =
          bounded-masked bounds (omega (arith, few)) (seeded_line old at).line.pulses (cell mask n) tearing (cell want) n (seeded_cell (seeded_line old at) n) here in
          let cells : IsBounded bounds (counted (seeded_line old at).line.pulses) (seeded_cell (seeded_line new at) n) = subst (λ c. IsBounded bounds (counted (seeded_line old at).line.pulses) c) (sym (w.cells n)) step in
          let count : IsBounded bounds (seeded_line new at).line.pulses (seeded_cell (seeded_line new at) n) = subst (λ k. IsBounded bounds k (seeded_cell (seeded_line new at) n)) (sym w.pulses) cells in
          subst (λ l. IsBounded bounds (seeded_line new l).line.pulses (seeded_cell (seeded_line new l) n)) (sym same) count
      | inr other ↦ subst (λ row. IsBounded bounds row.line.pulses (seeded_cell row n)) (sym (w.others line other)) (s line n before within)
    ]

-- a masked cell is one of the row's
pub masked_within : {B M : ℕ} (mask : Cells B M) → ((n : ℕ) → 8 * (B + M) ≤ n → cell mask n ≡ false) → (n : ℕ) → cell mask n ≡ true → n < 8 * (B + M)
masked_within {B} {M} mask past n masked =
    elim (cases_lt n (8 * (B + M))) as (λ _. n < 8 * (B + M)) [
      | inl low ↦ low
      | inr high ↦ absurd (true≢false (sym masked ∙ past n high))
    ]

-- each cell in the mask of a pulse or tear keeps to them
pub bounded_keeps : {B M : ℕ} (bounds : CellBounds) (array : SeededArray B M) (line : ℕ) (mask : Cells B M) → ((n : ℕ) → 8 * (B + M) ≤ n → cell mask n ≡ false)
    → line < length array.lines → AreBounded bounds array.lines → (n : ℕ) → cell mask n ≡ true → KeepsTo bounds (life_state bounds (seeded_line array line)) n
unfolding AreBounded
bounded_keeps bounds array line mask past exists s n masked =
    let own = s line n exists (masked_within mask past n masked) in
    record { misses = omega (arith, own.missed, own.limit); endures = own.stuck }
