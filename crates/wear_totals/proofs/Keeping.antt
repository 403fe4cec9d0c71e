-- Totals that are kept are those of what stands behind a pulse, a tear, a sense and a power-up.
use Rattle.std.proofs.Common.{◌≡◌, ℕ, ◌+◌, ◌-◌, ◌*◌, ◌^◌, ◌<◌, ◌≤◌, max, Bool, true, false, zero, suc, Option, Result, Ok, Err, refl, sym, ap, subst, ◌∙◌, arith}
use Rattle.std.specs.Prelude.{OnOk, OnErr}
use Rattle.cell_rows.specs.{Device.{ArrayState, ChangesOnly, EnergyChanges, IsCellKept, IsFresh, LineState, Senses, counted}, Energy.{with_pulse, with_sense}, Rows.cell, Told.most}
use Rattle.cell_rows.specs.{declared.array.LineEnergy.LineEnergy, declared.array.Sense.Sense, declared.array.Wear.Wear, declared.row.Cells.Cells}
use Rattle.cell_rows.proofs.Most.{most-none, most-same}
use Rattle.ecp_line.{specs.Layout.{IsLayout, active, activity_cell, full_cell, width}, proofs.Activity.{active-kept, active-within}, proofs.Blank.active-blank}
use Rattle.energy_report.specs.Sums.{energy_of}
use Rattle.run_text.specs.Pulses.{at_most_u64, pulses_in_all, pulses_of_first}
use Rattle.wear_totals.specs.{Totals.{AreBlank, IsTotalled, grown, line_totals, pointers_at, renewed, totals_of}, Wear.{most_pulses, pointers_of_first}}
use Rattle.wear_totals.{specs.declared.line.LineTotals.LineTotals, specs.declared.totals.Totals.Totals, proofs.Energies.{energy-pulsed, energy-sensed}}
use Rattle.wear_totals.proofs.Sums.{most-with, pointers-sum, pulses-sum, sum-has, sum-none, sum-same, sum-small, sum-with, sum_of}

-- the activity cells are check cells
activity-low : (w e i all : ℕ) → 2 ≤ e → e ≤ w + 1 → i < e - 1 → e * (w + 1) + 1 ≤ all → (e - 1) * (w + 1) + i < all
activity-low w zero i all two few low room = absurd (omega (arith, two))
activity-low w (suc k) i all two few low room =
    let one : suc k - 1 ≡ k = omega arith in
    let less : i < k = omega (arith, low, one) in
    rw one (omega (arith, less, few, room))

-- a pulse or a tear that touches no check cell leaves as many pointers active as were
pub untouched : {n m e : ℕ} → IsLayout n m e → (mask : Cells n m) → ((number : ℕ) → 8 * n ≤ number → number < 8 * (n + m) → cell mask number ≡ false)
    → (old new : LineState n m) → ((number : ℕ) → cell mask number ≡ false → IsCellKept old new number)
    → active n e (cell new.held) ≡ active n e (cell old.held)
untouched {n} {m} {e} layout mask none old new unmasked =
    let room = layout.room in
    active-kept n e (cell old.held) (cell new.held)
    (unmasked (full_cell n e) (none (full_cell n e) (omega arith) (omega (arith, room)))).value
    (λ i low within.
    let less = activity-low (width n) e i (8 * m) layout.two layout.most low room in
    (unmasked (activity_cell n e + i) (none (activity_cell n e + i) (omega arith) (omega (arith, less)))).value)

-- two totals are the same, field by field
same-totals : (p p' m m' s s' : ℕ) (e e' : Option LineEnergy) → p ≡ p' → m ≡ m' → s ≡ s' → e ≡ e'
    → (λ (t : Totals). t) (record { pulses = p; most = m; pointers = s; energy = e }) ≡ record { pulses = p'; most = m'; pointers = s'; energy = e' }
same-totals p p' m m' s s' e e' hp hm hs he = rw (hp, hm, hs, he) refl

-- a layout has few pointers
few-entries : {n m e : ℕ} → IsLayout n m e → e ≤ 130
few-entries {n} {m} {e} layout = let room = layout.room in let few = layout.shape.3 in omega (arith, room, few)

-- the pointers of an array are few, and those of a line among them
module _ {n m : ℕ} (e : ℕ) (array : ArrayState n m) (totals : Totals) (had : IsTotalled e array totals) where
  pointers-are : totals.pointers ≡ pointers_of_first e array array.lines
  pointers-are = ap (λ (t : Totals). t.pointers) had.is

  pub has-pointers : (touched : Bool) (line : ℕ) → line < array.lines → pointers_at e touched array line ≤ totals.pointers
  has-pointers false line low = omega arith
  has-pointers true line low =
      let part = sum-has (λ l. active n e (cell (array.line l).held)) line array.lines low in
      let is = pointers-are ∙ pointers-sum array e array.lines in
      omega (arith, part, is)

  pub few-pointers : totals.pointers ≤ 2 ^ 40
  few-pointers =
      let small = sum-small (λ l. active n e (cell (array.line l).held)) 130 array.lines (λ l. entries-few (active-within n e (cell (array.line l).held)) (few-entries had.layout)) in
      let is = pointers-are ∙ pointers-sum array e array.lines in
      let lines = had.few in
      omega (arith, small, is, lines)
    where
      entries-few : {a : ℕ} → a ≤ e → e ≤ 130 → a ≤ 130
      entries-few low few = omega (arith, low, few)

-- what a pulse or a tear of a line makes of the totals
module _ {n m : ℕ} (e : ℕ) (old new : ArrayState n m) (line : ℕ) (changes : ChangesOnly line old new) (low : line < old.lines) where
  pulses-driven : (new.line line).pulses ≡ counted (old.line line).pulses → (old.line line).pulses < 2 ^ 64
      → grown (pulses_in_all old) (old.line line).pulses (new.line line).pulses ≡ pulses_in_all new
  pulses-driven one fits =
      let with = sum-with (λ l. (old.line l).pulses) (λ l. (new.line l).pulses) line old.lines (λ other apart. ap (λ (l : LineState n m). l.pulses) (changes.others other apart)) low in
      let was = pulses-sum old old.lines in
      let is = pulses-sum new new.lines ∙ ap (sum_of (λ l. (new.line l).pulses)) changes.lines in
      omega (arith, with, was, is, one, fits)

  most-driven : (new.line line).pulses ≡ counted (old.line line).pulses → (old.line line).pulses < 2 ^ 64
      → max (most_pulses old) (new.line line).pulses ≡ most_pulses new
  most-driven one fits =
      let more : (old.line line).pulses ≤ (new.line line).pulses = omega (arith, one, fits) in
      sym (most-with (λ l. (old.line l).pulses) (λ l. (new.line l).pulses) line old.lines (λ other apart. ap (λ (l : LineState n m). l.pulses) (changes.others other apart)) more low)
      ∙ ap (most (λ l. (new.line l).pulses)) (sym changes.lines)

  pointers-with : pointers_of_first e new new.lines + active n e (cell (old.line line).held) ≡ pointers_of_first e old old.lines + active n e (cell (new.line line).held)
  pointers-with =
      let with = sum-with (λ l. active n e (cell (old.line l).held)) (λ l. active n e (cell (new.line l).held)) line old.lines
      (λ other apart. ap (λ (l : LineState n m). active n e (cell l.held)) (changes.others other apart)) low in
      let was = pointers-sum old e old.lines in
      let is = pointers-sum new e new.lines ∙ ap (sum_of (λ l. active n e (cell (new.line l).held))) changes.lines in
      omega (arith, with, was, is)

  -- where no check cell is touched, as many pointers are active as were
  abbrev pub IsUntouched : Bool → Type 0
  IsUntouched touched = touched ≡ false → active n e (cell (new.line line).held) ≡ active n e (cell (old.line line).held)

  pointers-driven : (touched : Bool) → IsUntouched touched
      → pointers_of_first e old old.lines - pointers_at e touched old line + pointers_at e touched new line ≡ pointers_of_first e new new.lines
  pointers-driven true same =
      let with = pointers-with in
      let part = sum-has (λ l. active n e (cell (old.line l).held)) line old.lines low in
      let was = pointers-sum old e old.lines in
      omega (arith, with, part, was)
  pointers-driven false same =
      let with = pointers-with in
      let stays = same refl in
      omega (arith, with, stays)

  pub driven : (touched : Bool) (mask want : Cells n m) (totals : Totals) → IsUntouched touched → IsTotalled e old totals → (new.line line).pulses ≡ counted (old.line line).pulses → (old.line line).pulses < 2 ^ 64
      → EnergyChanges line (with_pulse mask want (old.energy line)) old new → IsTotalled e new (renewed totals (line_totals e touched old line) (line_totals e touched new line))
  driven touched mask want totals same had one fits energy = record {
    layout = had.layout;
    few = let few = had.few in let lines = changes.lines in omega (arith, few, lines);
    is =
        ap (λ (t : Totals). renewed t (line_totals e touched old line) (line_totals e touched new line)) had.is
        ∙ same-totals _ _ _ _ _ _ _ _ (pulses-driven one fits) (most-driven one fits) (pointers-driven touched same)
        (sym (energy-pulsed old.energy new.energy line energy.others mask want energy.here old.lines low) ∙ ap (energy_of new.energy 0) (sym changes.lines));
  }

  -- so it is of what was looked at before and behind
  pub kept : (touched : Bool) (mask want : Cells n m) (totals result : Totals) (before behind : LineTotals) → IsUntouched touched → IsTotalled e old totals → (new.line line).pulses ≡ counted (old.line line).pulses
      → EnergyChanges line (with_pulse mask want (old.energy line)) old new → before ≡ line_totals e touched old line → before.pulses < 2 ^ 64 → behind ≡ line_totals e touched new line
      → result ≡ renewed totals before behind → IsTotalled e new result
  kept touched mask want totals result before behind same had one energy was fits is gives =
      subst (λ (t : Totals). IsTotalled e new t)
      (sym (gives ∙ ap (λ (l : LineTotals). renewed totals l behind) was ∙ ap (renewed totals (line_totals e touched old line)) is))
      (driven touched mask want totals same had one (subst (λ (l : LineTotals). l.pulses < 2 ^ 64) was fits) energy)

-- what a sense makes of them
pub sensed : {n m : ℕ} (e : ℕ) (old new : ArrayState n m) (sense : Sense n m) (totals : Totals) → IsTotalled e old totals → sense.line < old.lines
    → Senses sense old new → IsTotalled e new (record totals { energy = with_sense totals.energy })
sensed {n} {m} e old new sense totals had low senses = record {
  layout = had.layout;
  few = let few = had.few in let lines = senses.lines in omega (arith, few, lines);
  is =
      ap (λ (t : Totals). (λ (u : Totals). u) (record t { energy = with_sense t.energy })) had.is
      ∙ same-totals _ _ _ _ _ _ _ _
      (ap at_most_u64
      (pulses-sum old old.lines
      ∙ sum-same (λ l. (old.line l).pulses) (λ l. (new.line l).pulses) old.lines (λ l less. ap (λ (s : LineState n m). s.pulses) (sym (senses.line l)))
      ∙ sym (pulses-sum new old.lines)
      ∙ ap (pulses_of_first new) (sym senses.lines)))
      (most-same (λ l. (old.line l).pulses) (λ l. (new.line l).pulses) old.lines (λ l less. ap (λ (s : LineState n m). s.pulses) (sym (senses.line l)))
      ∙ ap (most (λ l. (new.line l).pulses)) (sym senses.lines))
      (pointers-sum old e old.lines
      ∙ sum-same (λ l. active n e (cell (old.line l).held)) (λ l. active n e (cell (new.line l).held)) old.lines (λ l less. ap (λ (s : LineState n m). active n e (cell s.held)) (sym (senses.line l)))
      ∙ sym (pointers-sum new e old.lines)
      ∙ ap (pointers_of_first e new) (sym senses.lines))
      (sym (energy-sensed old.energy new.energy sense.line senses.energy.others senses.energy.here old.lines low) ∙ ap (energy_of new.energy 0) (sym senses.lines));
}

-- an array that was just powered up, or has no line since it couldn't be
pub either-blank : {n m : ℕ} {F : Type 0} (array : ArrayState n m) (lines : ℕ) (wear : Wear) (result : Result (Unit {0}) F) → OnOk result (IsFresh lines wear array)
    → OnErr result (array.lines ≡ 0) → AreBlank array
either-blank array lines wear (Ok done) ok err line low = ok.blank line (omega (arith, low, ok.count))
either-blank array lines wear (Err fault) ok err line low = absurd (omega (arith, low, err))

-- what is known of an array that was just powered up
module _ {n m : ℕ} (e : ℕ) (array : ArrayState n m) (blank : AreBlank array) where
  pulses-fresh : pulses_of_first array array.lines ≡ 0
  pulses-fresh = pulses-sum array array.lines ∙ sum-none (λ l. (array.line l).pulses) array.lines (λ l low. (blank l low).pulses)

  most-fresh : most_pulses array ≡ 0
  most-fresh = most-none (λ l. (array.line l).pulses) array.lines (λ l low. (blank l low).pulses)

  pointers-fresh : pointers_of_first e array array.lines ≡ 0
  pointers-fresh = pointers-sum array e array.lines ∙ sum-none (λ l. active n e (cell (array.line l).held)) array.lines (λ l low. active-blank n e (cell (array.line l).held) (blank l low).held)

  pub totals-fresh : (energy : Option LineEnergy) (lines : ℕ) → energy ≡ energy_of array.energy 0 lines → lines ≡ array.lines
      → (λ (t : Totals). t) (record { pulses = 0; most = 0; pointers = 0; energy = energy }) ≡ totals_of e array
  totals-fresh energy lines is same =
      same-totals _ _ _ _ _ _ _ _ (sym (ap at_most_u64 pulses-fresh)) (sym most-fresh) (sym pointers-fresh) (is ∙ ap (energy_of array.energy 0) same)
