-- That an outcome of each row was told.
use Rattle.std.proofs.Common.{◌≡◌, ◌≢◌, ℕ, zero, suc, ◌-◌, ◌<◌, ◌≤◌, Bool, true, false, List, [], ◌∷◌, length, replicate, reverse, Some, refl, ap, ◌∙◌, subst, arith}
use Rattle.std.{specs.Prelude.{slice_get, All}, proofs.lemmas.List.{reverse-reverse, length-replicate, length-reverse, get_or-replicate}, proofs.lemmas.List.Elements.All-get_or}
use Rattle.std.proofs.lemmas.Option.{get_or_from_slice_get, slice_get_within, slice_get-get_or}
use Rattle.check_laws.proofs.Soon.{All-reverse}
use Rattle.cell_rows.specs.Device.{ArrayState}
use Rattle.trace_reader.specs.declared.event.Event.{Event}
use Rattle.result_rows.specs.{Table.HasRow, declared.Outcome.Outcome}
use Rattle.row_rules.specs.{Serving.{is_served, may_have, owed}, declared.Asks.Asks, declared.Asks.TheVariants.{Reads, Writes, Cuts}, declared.Row.Row}
use Rattle.trace_rows.{specs.Rows.{row_of, rows_with}, proofs.Lines.row-at}
use Rattle.module_shape.specs.declared.raw.RawShape.{RawShape}
use Rattle.right_runs.specs.{Ends.BankEnd, Runs.RunsRightTo}
use Rattle.run_laws.proofs.Lifting.{each-all, each-passes}
use Rattle.row_printer.{specs.Printing.table_of, specs.Telling.{outcomes_in, tells, TellsOnce}, specs.declared.told.Told.Told, proofs.Once.stays-told}
use Rattle.row_stream.{specs.Ending.rows_of, proofs.Growing.none}

pub some-at : {A : Type 0} (xs : List A) (i : ℕ) → i < length xs → (x : A) × (slice_get xs i ≡ Some x)
some-at [] i below = absurd (omega arith)
some-at (x ∷ xs) zero below = (x, refl)
some-at (x ∷ xs) (suc i) below = some-at xs i (omega arith)

module _ {n : ℕ} where
  -- no row may be without an outcome
  unset-not : (tick : ℕ) (asks : Asks n) (newest : List ℕ) (outcome : Outcome n) → outcome ≡ none → may_have tick asks newest outcome ≡ true → ⊥
  unset-not tick (Reads line) newest outcome is may =
      let no_way : false ≡ true = subst (λ (o : Outcome n). may_have tick (Reads line) newest o ≡ true) is may in cc no_way
  unset-not tick (Writes line bytes given) newest outcome is may =
      let no_way : false ≡ true = subst (λ (o : Outcome n). may_have tick (Writes line bytes given) newest o ≡ true) is may in cc no_way
  unset-not tick Cuts newest outcome is may =
      let no_way : false ≡ true = subst (λ (o : Outcome n). may_have tick Cuts newest o ≡ true) is may in cc no_way

  abbrev IsSet : Row n → Type 0
  IsSet r = r.outcome ≢ none

  all-set : {m : ℕ} (e : ℕ) (raw : RawShape) (seed : ℕ) (off : Bool) (rows : List (Row n)) (array : ArrayState n m) (ends : ℕ → BankEnd) → RunsRightTo e raw seed off rows array ends → All IsSet rows
  all-set e raw seed off rows array ends right =
      each-all (λ before r. IsSet r) IsSet (λ before r h. h) rows
      (each-passes (λ before r. IsSet r) is_served (λ before r after h is. unset-not r.tick r.asks (owed before r.asks) r.outcome is h) rows [] right.serves.served)

  -- each row of a right run was told
  pub each-told : {m : ℕ} (e : ℕ) (raw : RawShape) (seed : ℕ) (off : Bool) (events : List (Event n)) (places : ℕ) (told : List (Told n)) (array : ArrayState n m) (ends : ℕ → BankEnd)
      → places ≡ length events → TellsOnce places (outcomes_in told) → RunsRightTo e raw seed off (rows_of events (table_of places told)) array ends
      → (row : ℕ) → 1 ≤ row → row ≤ places → tells (outcomes_in told) row ≡ true
  each-told {m} e raw seed off events places told array ends counted once right row above within = by (tells (outcomes_in told) row) clash
    where
      clash : tells (outcomes_in told) row ≡ false → ⊥
      clash untold =
          let blank : List (Outcome n) = replicate places none in
          let size : length blank ≡ places = length-replicate places none in
          let there : HasRow blank row = record { above = above; within = rw size within } in
          let below : row - 1 < places = omega (arith, above, within) in
          let here : row - 1 < length blank = rw size below in
          let was : slice_get blank (row - 1) ≡ Some none = slice_get-get_or blank (row - 1) none here ∙ ap Some (get_or-replicate places (row - 1) none none below) in
          let still : slice_get (table_of places told) (row - 1) ≡ Some none = stays-told places (outcomes_in told) blank row once size there untold ∙ was in
          let forwards : List (Event n) = reverse events in
          let in_events : row - 1 < length forwards = rw (length-reverse events) (omega (arith, counted, below)) in
          let event = some-at forwards (row - 1) in_events in
          let rows : List (Row n) = rows_with forwards (table_of places told) in
          let mine : slice_get rows (row - 1) ≡ Some (row_of event.0 none) = row-at forwards (table_of places told) (row - 1) event.0 none event.1 still in
          let each : All IsSet rows = subst (All IsSet) (reverse-reverse rows) (All-reverse IsSet (reverse rows) (all-set e raw seed off (reverse rows) array ends right)) in
          let set : IsSet (row_of event.0 none) = subst IsSet (get_or_from_slice_get rows (row - 1) (row_of event.0 none) (row_of event.0 none) mine) (All-get_or IsSet rows (row - 1) (row_of event.0 none) (slice_get_within rows (row - 1) (row_of event.0 none) mine) each) in
          set refl

      by : (b : Bool) → (b ≡ false → ⊥) → b ≡ true
      by true no_way = refl
      by false no_way = absurd (no_way refl)
