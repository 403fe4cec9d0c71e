-- Lines, by the states of their cells.
use Rattle.std.proofs.Common.{◌≡◌, ℕ, ◌+◌, ◌*◌, ◌<◌, ◌≤◌, ◌⊎◌, Bool, true, false, get_or, replicate, slice_index, refl, ◌∙◌, ap, inl, inr, arith}
use Rattle.std.proofs.{lemmas.Bool.cases_lt, lemmas.List.{get_or-replicate, get_or_past, length-replicate}}
use Rattle.cell_rows.specs.{Device.{LineState, CellBounds, CellPulsed, CellTorn, DeviceStep, TornStep, IsCellKept, IsBlank, counted}, Rows.cell, declared.row.Cells.Cells}
use Rattle.cell_rows.proofs.RowLemmas.{cell-zeros}
use Rattle.pcm_cells.specs.Cell.{line_state, cell_state, blank_line}
use Rattle.seeded_lines.specs.declared.cell.CellState.{CellState}

-- a live cell after a pulse, with the changes that it had spent before and has after, where cells endure so many: it took the wanted value,
-- it missed, or it stuck
abbrev pub IsPulsed : Bool → ℕ → CellState → CellState → ℕ → ℕ → Type 0
IsPulsed want endures old new before after =
    ((new.stuck ≡ false) × (new.value ≡ want) × (new.misses ≡ 0) × (after ≤ before + 1))
    ⊎ (((new.stuck ≡ false) × (new.value ≡ old.value) × (new.misses ≡ old.misses + 1) × (after ≤ before))
    ⊎ ((new.stuck ≡ true) × (endures ≤ before + 1)))

-- the same after a tear: it is live or it stuck
abbrev pub IsTorn : ℕ → CellState → ℕ → ℕ → Type 0
IsTorn endures new before after = ((new.stuck ≡ false) × (after ≤ before + 1)) ⊎ ((new.stuck ≡ true) × (endures ≤ before + 1))

-- a cell of a line has missed no more often than the bound, and if it is stuck, the line had as many pulses as the other says
pub record KeepsTo {B M : ℕ} (bounds : CellBounds) (line : LineState B M) (n : ℕ) : Type 0 where
  pub misses : line.misses n ≤ bounds.misses
  pub endures : line.stuck n ≡ true → bounds.endures ≤ line.pulses

pub kept_cell : {B M : ℕ} (old new : LineState B M) (n : ℕ) → cell_state new n ≡ cell_state old n → new.spent n ≡ old.spent n → IsCellKept old new n
kept_cell old new n e spent =
    record { value = ap (λ c. c.value) e; stuck = ap (λ c. c.stuck) e; misses = ap (λ c. c.misses) e; spent = spent }

within_bounds : {B M : ℕ} (bounds : CellBounds) (want : Cells B M) (old new : LineState B M) (n : ℕ) → KeepsTo bounds new n
    → IsPulsed (cell want n) bounds.endures (cell_state old n) (cell_state new n) (old.spent n) (new.spent n) → CellPulsed bounds want old new n
within_bounds bounds want old new n keeps (inl changed) = inl changed
within_bounds bounds want old new n keeps (inr (inl (live, value, misses, spent))) = inr (inl (live, value, misses, keeps.misses, spent))
within_bounds bounds want old new n keeps (inr (inr (stuck, last))) = inr (inr (stuck, last, keeps.endures stuck))

pub device_step : {B M : ℕ} (bounds : CellBounds) (mask want : Cells B M) (old new : LineState B M) → bounds.misses ≤ 7
    → ((n : ℕ) → cell mask n ≡ false → cell_state new n ≡ cell_state old n)
    → ((n : ℕ) → cell mask n ≡ false → new.spent n ≡ old.spent n)
    → ((n : ℕ) → old.stuck n ≡ true → cell_state new n ≡ cell_state old n)
    → ((n : ℕ) → cell mask n ≡ true → old.stuck n ≡ false
    → IsPulsed (cell want n) bounds.endures (cell_state old n) (cell_state new n) (old.spent n) (new.spent n))
    → ((n : ℕ) → cell mask n ≡ true → KeepsTo bounds new n)
    → new.pulses ≡ counted old.pulses → DeviceStep bounds mask want old new
device_step bounds mask want old new few unmasked spent stuck live keeps pulses = record {
  few = few;
  unmasked = λ n h. kept_cell old new n (unmasked n h) (spent n h);
  stuck = λ n h. (ap (λ c. c.stuck) (stuck n h) ∙ h, ap (λ c. c.value) (stuck n h));
  live = λ n masked is_live. within_bounds bounds want old new n (keeps n masked) (live n masked is_live);
  pulses = pulses;
}

live_or_stuck : {B M : ℕ} (bounds : CellBounds) (old new : LineState B M) (n : ℕ) → KeepsTo bounds new n
    → IsTorn bounds.endures (cell_state new n) (old.spent n) (new.spent n) → CellTorn bounds old new n
live_or_stuck bounds old new n keeps (inl (live, spent)) = inl (live, keeps.misses, spent)
live_or_stuck bounds old new n keeps (inr (stuck, last)) = inr (stuck, last, keeps.endures stuck)

pub torn_step : {B M : ℕ} (bounds : CellBounds) (mask : Cells B M) (old new : LineState B M) → bounds.misses ≤ 7
    → ((n : ℕ) → cell mask n ≡ false → cell_state new n ≡ cell_state old n)
    → ((n : ℕ) → cell mask n ≡ false → new.spent n ≡ old.spent n)
    → ((n : ℕ) → old.stuck n ≡ true → cell_state new n ≡ cell_state old n)
    → ((n : ℕ) → cell mask n ≡ true → old.stuck n ≡ false → IsTorn bounds.endures (cell_state new n) (old.spent n) (new.spent n))
    → ((n : ℕ) → cell mask n ≡ true → KeepsTo bounds new n)
    → new.pulses ≡ counted old.pulses → TornStep bounds mask old new
torn_step bounds mask old new few unmasked spent stuck live keeps pulses = record {
  few = few;
  unmasked = λ n h. kept_cell old new n (unmasked n h) (spent n h);
  stuck = λ n h. (ap (λ c. c.stuck) (stuck n h) ∙ h, ap (λ c. c.value) (stuck n h));
  live = λ n masked is_live. live_or_stuck bounds old new n (keeps n masked) (live n masked is_live);
  pulses = pulses;
}

zeros : (size n : ℕ) → slice_index (replicate size 0) n ≡ 0
zeros size n =
    elim (cases_lt n size) as (λ _. slice_index (replicate size 0) n ≡ 0) [
      | inl low ↦ get_or-replicate size n 0 0 low
      | inr high ↦ get_or_past (replicate size 0) n 0 (omega (arith, length-replicate {A = ℕ} size 0))
    ]

pub blank_is_blank : (B M : ℕ) → IsBlank (line_state (blank_line B M))
blank_is_blank B M = record {
  held = cell-zeros B M;
  stuck = cell-zeros B M;
  misses = zeros (8 * (B + M));
  spent = λ n. refl;
  pulses = refl;
}

-- lines that are all blank
pub blank_lines : {X : Type 0} (B M count : ℕ) (line_of : X → LineState B M) (blank : X) → line_of blank ≡ line_state (blank_line B M)
    → (l : ℕ) → l < count → IsBlank (line_of (get_or (replicate count blank) l blank))
blank_lines B M count line_of blank e l h =
    rw (get_or-replicate count l blank blank h, e) (blank_is_blank B M)
