-- What keeps outcomes.
use Rattle.std.proofs.Common.{◌≡◌, ℕ, ◌≤◌, Bool, List, [], ◌∷◌, ◌++◌, Some, length, replicate, refl, sym, ap, ◌∙◌, subst}
use Rattle.std.{specs.Prelude.{IsTrue, is_some}, proofs.lemmas.List.length-replicate}
use Rattle.result_rows.specs.{Outcomes.op_of, Table.{HasRow, outcome_at, with_outcome}, declared.Outcome.Outcome, declared.Outcome.TheVariants.Unset}
use Rattle.row_printer.specs.{Printing.{Printing, PrintsOn, table_of, table_told}, Snapshots.{AddsDue, is_due}, Telling.{outcomes_in, recorded, TellsOnce}}
use Rattle.row_printer.specs.{declared.snapshot.Snapshot.Snapshot, declared.told.Shown.Shown, declared.told.Shown.TheVariants.Nothing, declared.told.Told.Told}
use Rattle.row_printer.{specs.declared.told.Told.TheVariants.Became, proofs.Once.{once-more, open-untold}, proofs.Telling.{length-recorded, outcomes-more, recorded-more}}
use Rattle.pcm_module.specs.{State.ModuleState, Telling.{TellsByBanks, TellsFor}}
use Rattle.row_rules.specs.declared.Asks.{Asks}
use Rattle.pcm_library.{specs.Keeping.{KeepsOn, Waiting, kept_pairs, unfailing, unwritten}, specs.declared.keeper.KeptOutcome.KeptOutcome, proofs.Weaker.{banks-so, for-so}}

-- outcomes behind outcomes
pub pairs-more : {n : ℕ} (xs ys : List (KeptOutcome n)) → kept_pairs (xs ++ ys) ≡ kept_pairs xs ++ kept_pairs ys
pairs-more [] ys = refl
pairs-more {n} (x ∷ xs) ys = ap (λ (t : List (ℕ × Outcome n)). (x.row, x.outcome) ∷ t) (pairs-more xs ys)

-- a row that is open is told once more
pub tells-next : {n : ℕ} (most : ℕ) (outcomes : List (ℕ × Outcome n)) (row : ℕ) (outcome : Outcome n) → TellsOnce most outcomes → HasRow (recorded outcomes (replicate most Unset)) row
    → outcome_at (recorded outcomes (replicate most Unset)) row ≡ Some Unset → IsTrue (is_some (op_of outcome)) → TellsOnce most (outcomes ++ (row, outcome) ∷ [])
tells-next {n} most outcomes row outcome once exists unset is =
    let none : List (Outcome n) = replicate most Unset in
    let size : length none ≡ most = length-replicate most Unset in
    let within : row ≤ most = rw (length-recorded outcomes none ∙ size) at exists.within in
    let there : HasRow none row = record { above = exists.above; within = rw size within } in
    once-more most outcomes row outcome exists.above within is (open-untold most outcomes none row once size there unset) once

-- the table has the outcome of a row that was told
pub table-set : {n : ℕ} (rows : ℕ) (told : List (Told n)) (row : ℕ) (outcome : Outcome n) → table_of rows (told ++ Became row outcome ∷ []) ≡ with_outcome (table_of rows told) row outcome
table-set {n = n} rows told row outcome =
    ap (λ (outcomes : List (ℕ × Outcome n)). recorded outcomes (replicate rows Unset)) (outcomes-more told row outcome)
    ∙ recorded-more (outcomes_in told) (replicate rows Unset) row outcome

-- where nothing is printed no snapshot is due
pub none-due : (prints : Shown) (row : ℕ) (Holds : Snapshot → Type 0) (before now : List Snapshot) → prints ≡ Nothing → now ≡ before → AddsDue (is_due prints row) Holds before now
none-due prints row Holds before now is same = subst (λ p. AddsDue (is_due p row) Holds before now) (sym is) same

module _ {n : ℕ} where
  -- what is kept is told as what is printed is
  pub kept-banks : (ends : Bool) (rows : ℕ → ℕ → Bool) (banks : ℕ) (old new : Printing n (Waiting n)) → TellsByBanks KeepsOn table_told ends rows banks old new
      → TellsByBanks (PrintsOn unwritten unfailing) table_told ends rows banks old new
  kept-banks ends rows banks old new had = banks-so KeepsOn (PrintsOn unwritten unfailing) (λ one two on. on.prints) table_told ends rows banks old new had

  pub kept-for : {m e : ℕ} (module_ : ModuleState n m e) (row : ℕ) (asks : Asks n) (old new : Printing n (Waiting n)) → TellsFor KeepsOn table_told module_ row asks old new
      → TellsFor (PrintsOn unwritten unfailing) table_told module_ row asks old new
  kept-for module_ row asks old new had = for-so KeepsOn (PrintsOn unwritten unfailing) (λ one two on. on.prints) table_told module_ row asks old new had

-- the first that waits is the last that is taken
pub pairs-shift : {n : ℕ} (taken : List (KeptOutcome n)) (one : KeptOutcome n) (rest : List (KeptOutcome n)) → kept_pairs taken ++ kept_pairs (one ∷ rest) ≡ kept_pairs (taken ++ one ∷ []) ++ kept_pairs rest
pairs-shift [] one rest = refl
pairs-shift {n} (x ∷ taken) one rest = ap (λ (t : List (ℕ × Outcome n)). (x.row, x.outcome) ∷ t) (pairs-shift taken one rest)
