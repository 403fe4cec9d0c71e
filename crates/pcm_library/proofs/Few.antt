-- That no more rows have no outcome than the banks have places for.
use Rattle.std.proofs.Common.{◌≡◌, ℕ, zero, suc, ◌+◌, ◌*◌, ◌-◌, ◌<◌, ◌≤◌, ◌==◌, ◌||◌, Bool, true, false, List, [], ◌∷◌, length, replicate, Option, Some, None, inl, inr, refl, sym, ap, subst, ◌∙◌, eqb-true, arith}
use Rattle.std.{specs.Prelude.{IsSomeAnd, not, slice_get, unwrap_or}, proofs.lemmas.Bool.cases_eq, proofs.lemmas.List.{length-replicate, get_or-replicate}}
use Rattle.std.proofs.lemmas.Option.{slice_get-get_or}
use Rattle.masked_bytes.specs.{Entries.has_row, declared.entry.Entry.Entry}
use Rattle.cell_rows.specs.Device.{ArrayState}
use Rattle.result_rows.specs.{Table.{HasRow, outcome_at}, declared.Outcome.Outcome, declared.Outcome.TheVariants.Unset}
use Rattle.bank_shape.specs.declared.waiting.Waiting.{Waiting}
use Rattle.bank_model.specs.Timing.{TimedEvent}
use Rattle.module_shape.specs.{Limits.IsShape, declared.raw.RawShape.RawShape}
use Rattle.clock_laws.specs.{Standing.has_waiting, State.ClockState}
use Rattle.bank_timing.specs.Extending.{outcome_in}
use Rattle.pcm_module.specs.{Asking.asked_for, Replaying.{Replays, ReplaysIn}, State.ModuleState, Telling.{has_standing, rows_at}}
use Rattle.row_printer.specs.{Printing.table_of, Telling.{outcomes_in, tells, TellsOnce}, declared.snapshot.Snapshot.Snapshot, declared.told.Shown.Shown, declared.told.Told.Told}
use Rattle.row_printer.proofs.Once.{stays-told}
use Rattle.trace_stream.specs.{Asked.events_in, declared.asked.Asked.Asked}
use Rattle.row_stream.{specs.Serving.IsServing, proofs.Nowhere.{at-bank, known-nowhere}}
use Rattle.pcm_library.specs.Serving.{most_open}

abbrev one_if : Bool → ℕ
one_if true = 1
one_if false = 0

-- how many of the first rows pass a test
abbrev passing : ℕ → (ℕ → Bool) → ℕ
passing zero test = 0
passing (suc row) test = passing row test + one_if (test (suc row))

if-either : (a b : Bool) → one_if (a || b) ≤ one_if a + one_if b
if-either true b = omega arith
if-either false b = omega arith

if-not : (b : Bool) → one_if b + one_if (not b) ≡ 1
if-not true = refl
if-not false = refl

if-so : (a b : Bool) → (a ≡ true → b ≡ true) → one_if a ≤ one_if b
if-so false b so = omega arith
if-so true b so = let is : one_if b ≡ 1 = ap one_if (so refl) in omega (arith, is)

-- of two tests no more pass either than pass both, counted apart
either-pass : (rows : ℕ) (one other : ℕ → Bool) → passing rows (λ row. one row || other row) ≤ passing rows one + passing rows other
either-pass zero one other = omega arith
either-pass (suc row) one other =
    let before = either-pass row one other in
    let last = if-either (one (suc row)) (other (suc row)) in
    omega (arith, before, last)

all-pass : (rows : ℕ) (test : ℕ → Bool) → passing rows test + passing rows (λ row. not (test row)) ≡ rows
all-pass zero test = refl
all-pass (suc row) test =
    let before = all-pass row test in
    let last = if-not (test (suc row)) in
    omega (arith, before, last)

so-pass : (rows : ℕ) (one other : ℕ → Bool) → ((row : ℕ) → 1 ≤ row → row ≤ rows → one row ≡ true → other row ≡ true) → passing rows one ≤ passing rows other
so-pass zero one other so = omega arith
so-pass (suc row) one other so =
    let before = so-pass row one other (λ r above within is. so r above (omega (arith, within)) is) in
    let last = if-so (one (suc row)) (other (suc row)) (so (suc row) (omega arith) (omega arith)) in
    omega (arith, before, last)

none-pass : (rows : ℕ) → passing rows (λ row. false) ≡ 0
none-pass zero = refl
none-pass (suc row) = let before = none-pass row in omega (arith, before)

-- no row below a number is it, and one is at most
none-step : (row number : ℕ) → suc row < number → (b : Bool) → (b ≡ true → number ≡ suc row) → one_if b ≡ 0
none-step row number below true same = let is = same refl in absurd (omega (arith, is, below))
none-step row number below false same = refl

none-is : (rows number : ℕ) → rows < number → passing rows (λ row. number == row) ≡ 0
none-is zero number below = refl
none-is (suc row) number below =
    let before = none-is row number (omega (arith, below)) in
    let last : one_if (number == suc row) ≡ 0 = none-step row number below (number == suc row) (eqb-true number (suc row)) in
    omega (arith, before, last)

one-step : (row number : ℕ) → passing row (λ r. number == r) ≤ 1 → (b : Bool) → (b ≡ true → number ≡ suc row) → passing row (λ r. number == r) + one_if b ≤ 1
one-step row number before true same =
    let is = same refl in
    let none = none-is row number (omega (arith, is)) in
    omega (arith, none)
one-step row number before false same = omega (arith, before)

one-is : (rows number : ℕ) → passing rows (λ row. number == row) ≤ 1
one-is zero number = omega arith
one-is (suc row) number = one-step row number (one-is row number) (number == suc row) (eqb-true number (suc row))

module _ {n : ℕ} where
  told-most : (rows : ℕ) (told : List (ℕ × Outcome n)) → passing rows (tells told) ≤ length told
  told-most rows [] = let none = none-pass rows in omega (arith, none)
  told-most rows (one ∷ told) =
      let before = told-most rows told in
      let first = one-is rows one.0 in
      let both = either-pass rows (λ row. one.0 == row) (tells told) in
      omega (arith, before, first, both)

  queued-most : (rows : ℕ) (entries : List (Entry n)) → passing rows (has_row entries) ≤ length entries
  queued-most rows [] = let none = none-pass rows in omega (arith, none)
  queued-most rows (one ∷ entries) =
      let before = queued-most rows entries in
      let first = one-is rows one.row in
      let both = either-pass rows (λ row. one.row == row) (has_row entries) in
      omega (arith, before, first, both)

  waiting-most : (rows : ℕ) (waits : List (Waiting n)) → passing rows (has_waiting waits) ≤ length waits
  waiting-most rows [] = let none = none-pass rows in omega (arith, none)
  waiting-most rows (one ∷ waits) =
      let before = waiting-most rows waits in
      let first = one-is rows one.row in
      let both = either-pass rows (λ row. one.row == row) (has_waiting waits) in
      omega (arith, before, first, both)

-- whether a row passes in one of the first banks
abbrev in_some : ℕ → (ℕ → ℕ → Bool) → ℕ → Bool
in_some zero test row = false
in_some (suc bank) test row = in_some bank test row || test bank row

none-last : (last : ℕ) (test : ℕ → ℕ → Bool) (row : ℕ) → (in_some last test row ≡ false → (bank : ℕ) → bank < last → test bank row ≡ false)
    → (a b : Bool) → in_some last test row ≡ a → test last row ≡ b → (a || b) ≡ false → (bank : ℕ) → bank < suc last → test bank row ≡ false
none-last last test row before true b first second is bank there = absurd (cc is)
none-last last test row before false true first second is bank there = absurd (cc is)
none-last last test row before false false first second is bank there = elim (cases_eq bank last) [
  | inl same ↦ subst (λ (k : ℕ). test k row ≡ false) (sym same) second
  | inr other ↦ before first bank (omega (arith, there, other))
]

some-none : (banks : ℕ) (test : ℕ → ℕ → Bool) (row : ℕ) → in_some banks test row ≡ false → (bank : ℕ) → bank < banks → test bank row ≡ false
some-none zero test row none bank there = absurd (omega (arith, there))
some-none (suc last) test row none bank there =
    none-last last test row (λ first. some-none last test row first) (in_some last test row) (test last row) refl refl none bank there

some-most : (rows most banks : ℕ) (test : ℕ → ℕ → Bool) → ((bank : ℕ) → bank < banks → passing rows (test bank) ≤ most) → passing rows (in_some banks test) ≤ banks * most
some-most rows most zero test each = let none = none-pass rows in omega (arith, none)
some-most rows most (suc bank) test each =
    let before = some-most rows most bank test (λ k below. each k (omega (arith, below))) in
    let last = each bank (omega arith) in
    let both = either-pass rows (in_some bank test) (test bank) in
    let product : suc bank * most ≡ bank * most + most = omega arith in
    omega (arith, before, last, both, product)

module _ {n m e : ℕ} (h : ℕ → List (TimedEvent n m)) (asked : List (Asked n)) (module_ : ModuleState n m e) (array : ArrayState n m) (rows : ℕ) (told : List (Told n))
    (had : Replays h (asked_for (events_in asked)) module_ array (table_of rows told)) (is : IsShape module_.shape) (once : TellsOnce rows (outcomes_in told)) (counted : rows ≡ length (events_in asked)) where
  -- a bank has no more than it has places for
  bank-most : (bank : ℕ) → bank < module_.shape.banks → passing rows (rows_at module_ bank) ≤ module_.shape.writes + module_.shape.reads
  bank-most bank exists = by (slice_get module_.banks bank) refl (had.banks bank exists)
    where
      by : (o : Option (ClockState n m e)) → slice_get module_.banks bank ≡ o → IsSomeAnd o (ReplaysIn module_ bank (h bank) (asked_for (events_in asked)) array (table_of rows told))
          → passing rows (rows_at module_ bank) ≤ module_.shape.writes + module_.shape.reads
      by None none there = absurd there
      by (Some clock) found there =
          let writes = there.leads.holds.kept.few_entries in
          let reads = there.leads.holds.few_waiting in
          let places : clock.bank.kept.shape.writes ≡ module_.shape.writes = ap (λ s. s.writes) there.shaped in
          let waits : clock.bank.kept.shape.reads ≡ module_.shape.reads = ap (λ s. s.reads) there.shaped in
          let queued = queued-most rows clock.bank.kept.entries in
          let waiting = waiting-most rows clock.bank.waiting in
          let both = either-pass rows (has_row clock.bank.kept.entries) (has_waiting clock.bank.waiting) in
          subst (λ (c : ClockState n m e). passing rows (has_standing c.bank) ≤ module_.shape.writes + module_.shape.reads) (sym (at-bank module_ bank clock found))
          (omega (arith, writes, reads, places, waits, queued, waiting, both))

  -- a row that isn't told stands in a bank
  untold-stands : (row : ℕ) → 1 ≤ row → row ≤ rows → not (tells (outcomes_in told) row) ≡ true → in_some module_.shape.banks (rows_at module_) row ≡ true
  untold-stands row above within untold = by (in_some module_.shape.banks (rows_at module_) row) refl
    where
      none : Outcome n
      none = Unset

      blank : List (Outcome n)
      blank = replicate rows none

      is-false : (b : Bool) → not b ≡ true → b ≡ false
      is-false true at = absurd (cc at)
      is-false false at = refl

      below : row - 1 < rows
      below = omega (arith, above, within)

      size : length blank ≡ rows
      size = length-replicate rows none

      there : HasRow blank row
      there = record { above = above; within = rw size within }

      was : outcome_at blank row ≡ Some none
      was = slice_get-get_or blank (row - 1) none (rw size below) ∙ ap Some (get_or-replicate rows (row - 1) none none below)

      unset : outcome_in (table_of rows told) row ≡ none
      unset = ap (λ (o : Option (Outcome n)). unwrap_or o none) (stays-told rows (outcomes_in told) blank row once size there (is-false (tells (outcomes_in told) row) untold) ∙ was)

      by : (b : Bool) → in_some module_.shape.banks (rows_at module_) row ≡ b → b ≡ true
      by true found = refl
      by false found =
          absurd (known-nowhere h (events_in asked) module_ array (table_of rows told) had is row above (omega (arith, within, counted)) (some-none module_.shape.banks (rows_at module_) row found) unset)

  few : rows - length (outcomes_in told) ≤ most_open module_.shape
  few =
      let counts = all-pass rows (tells (outcomes_in told)) in
      let known = told-most rows (outcomes_in told) in
      let stand = so-pass rows (λ row. not (tells (outcomes_in told) row)) (in_some module_.shape.banks (rows_at module_)) untold-stands in
      let most = some-most rows (module_.shape.writes + module_.shape.reads) module_.shape.banks (rows_at module_) bank-most in
      omega (arith, counts, known, stand, most)

-- of rows that were served no more have no outcome than the banks have places for
pub few-open : {n m e : ℕ} (raw : RawShape) (seed : ℕ) (asked : List (Asked n)) (module_ : ModuleState n m e) (array : ArrayState n m) (rows : ℕ) (told : List (Told n)) (shown : Shown) (snaps : List Snapshot)
    → IsShape module_.shape → TellsOnce rows (outcomes_in told) → IsServing raw seed asked module_ array rows told shown snaps → rows - length (outcomes_in told) ≤ most_open module_.shape
few-open raw seed asked module_ array rows told shown snaps is once had = few had.history asked module_ array rows told had.served.replays is once had.counted
