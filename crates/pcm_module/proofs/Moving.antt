-- What a row that arrives at one bank leaves of that bank and of the others.
use Rattle.std.proofs.Common.{◌≡◌, ◌⊎◌, ℕ, ◌-◌, Bool, true, false, List, [], ◌∷◌, ◌++◌, length, Some, refl, sym, ap, subst, ◌∙◌, inl, inr, arith}
use Rattle.std.{specs.Prelude.unwrap_or, proofs.lemmas.Bool.or_from}
use Rattle.masked_bytes.{specs.Entries.has_row, proofs.Truth.{neither_first, neither_second}}
use Rattle.circular_buffer.proofs.Places.{slice_get-some}
use Rattle.cell_rows.specs.Device.{ArrayState}
use Rattle.result_rows.specs.{Table.HasRow, declared.Outcome.Outcome}
use Rattle.result_rows.specs.declared.Outcome.TheVariants as out
use Rattle.bank_shape.specs.{declared.BankShape.BankShape, declared.pace.Pace.Pace}
use Rattle.bank_model.specs.{Lawful.Lawful, Timing.TimedEvent}
use Rattle.bank_laws.specs.Outcomes.{outcome_of, outcome_with}
use Rattle.clock_laws.specs.{Leads.Leads, Recording.outcome_on, Standing.{has_waiting, is_arrival_of, arrives_with}, State.ClockState}
use Rattle.clock_laws.proofs.{Others.other_rows_law, Recording.whole_outcome_law}
use Rattle.module_laws.specs.Asking.{Asked, AreAsked}
use Rattle.bank_timing.specs.Extending.{Extends, IsOpen, outcome_in}
use Rattle.pcm_module.proofs.{Naming.{names, not_named}, Standing.{StandsNot, stands_not}}

module _ {n m : ℕ} where
  pub off_both : (row : ℕ) (added xs : List (TimedEvent n m)) → arrives_with (added ++ xs) row ≡ false → (arrives_with added row ≡ false) × (arrives_with xs row ≡ false)
  off_both row [] xs off = (refl, off)
  off_both row (x ∷ added) xs off =
      let rest = off_both row added xs (neither_second (is_arrival_of x.happens row) _ off) in
      (or_from (is_arrival_of x.happens row) _ (neither_first (is_arrival_of x.happens row) _ off) rest.0, rest.1)

  -- the outcome of a row depends on its own alone
  pub outcome_at_row : (shape : BankShape) (added xs : List (TimedEvent n m)) (before other : ℕ → Outcome n) (row : ℕ) → before row ≡ other row
      → outcome_on shape added xs before row ≡ outcome_on shape added xs other row
  outcome_at_row shape [] xs before other row same = same
  outcome_at_row shape (x ∷ added) xs before other row same =
      ap (λ o. unwrap_or (outcome_with shape (added ++ xs) x.happens x.tick row) o) (outcome_at_row shape added xs before other row same)

module _ {n : ℕ} where
  -- a row that keeps its outcome stays open
  pub open_kept : (results recorded : List (Outcome n)) (row : ℕ) → length recorded ≡ length results → outcome_in recorded row ≡ outcome_in results row
      → IsOpen results row → IsOpen recorded row
  open_kept results recorded row rows same is =
      let there = slice_get-some recorded (row - 1) (omega (arith, is.exists.above, is.exists.within)) in
      let unset : there.0 ≡ out.Unset = sym (ap (λ o. unwrap_or o out.Unset) there.1) ∙ same ∙ ap (λ o. unwrap_or o out.Unset) is.unset in
      record {
        exists = record { above = is.exists.above; within = omega (arith, is.exists.within) };
        unset = there.1 ∙ ap Some unset;
      }

module _ {n m e : ℕ} (xs : List (TimedEvent n m)) (clock : ClockState n m e) (array : ArrayState n m) (leads : Leads xs clock array) where
  -- a row that stands in a bank is one of those that were asked of it
  pub no_entry : (row : ℕ) → arrives_with xs row ≡ false → (has_row clock.bank.kept.entries row ≡ false) × (has_waiting clock.bank.waiting row ≡ false)
  no_entry row off =
      let none : StandsNot clock.bank.kept.shape row xs = stands_not clock.bank.kept.shape row xs off in
      (ap (λ es. has_row es row) leads.holds.entries ∙ none.queued, ap (λ ws. has_waiting ws row) leads.holds.waiting ∙ none.waiting)

  pub standing_named : (own : List (Asked n)) → AreAsked xs own → (row : ℕ) → (has_row clock.bank.kept.entries row ≡ true) ⊎ (has_waiting clock.bank.waiting row ≡ true)
      → names own row ≡ true
  standing_named own asked row stands = by (names own row) refl
    where
      by : (b : Bool) → names own row ≡ b → b ≡ true
      by true is = refl
      by false is =
          let none = no_entry row (not_named row xs own asked is) in
          elim stands [ inl there ↦ (let a : has_row clock.bank.kept.entries row ≡ false = none.0 in cc) | inr there ↦ (let a : has_waiting clock.bank.waiting row ≡ false = none.1 in cc) ]

  module _ (added : List (TimedEvent n m)) (new : ClockState n m e) (after : ArrayState n m) (results recorded : List (Outcome n)) (ext : Extends xs added clock new array after results recorded) where
    pub lawful_whole : Lawful clock.bank.kept.shape clock.pace e (added ++ xs)
    lawful_whole =
        subst (λ (s : BankShape). Lawful s clock.pace e (added ++ xs)) ext.shape
        (subst (λ (p : Pace). Lawful new.bank.kept.shape p e (added ++ xs)) ext.pace ext.leads.lawful)

    -- a row that neither stood, nor waited, nor came with these events keeps its outcome
    pub left_alone : (row : ℕ) → HasRow results row → has_row clock.bank.kept.entries row ≡ false → has_waiting clock.bank.waiting row ≡ false → arrives_with added row ≡ false
        → outcome_in recorded row ≡ outcome_in results row
    left_alone row has queued waiting off = ext.outcomes row has ∙ other_rows_law n m e row added xs clock array (outcome_in results) leads lawful_whole queued waiting off

    -- these events give no outcome to one that didn't arrive
    pub unheard : (row : ℕ) (before : ℕ → Outcome n) → arrives_with (added ++ xs) row ≡ false → outcome_on clock.bank.kept.shape added xs before row ≡ before row
    unheard row before off =
        let parts = off_both row added xs off in
        let none = no_entry row parts.1 in
        other_rows_law n m e row added xs clock array before leads lawful_whole none.0 none.1 parts.0

    -- so it keeps the one that it has
    pub untouched : (row : ℕ) → HasRow results row → arrives_with (added ++ xs) row ≡ false → outcome_in recorded row ≡ outcome_in results row
    untouched row has off = ext.outcomes row has ∙ unheard row (outcome_in results) off

    -- a row with the outcome of the history has that of the longer one
    pub told_on : (row : ℕ) → HasRow results row → outcome_in results row ≡ outcome_of clock.bank.kept.shape xs row
        → outcome_in recorded row ≡ outcome_of clock.bank.kept.shape (added ++ xs) row
    told_on row has told =
        ext.outcomes row has
        ∙ outcome_at_row clock.bank.kept.shape added xs (outcome_in results) (outcome_of clock.bank.kept.shape xs) row told
        ∙ whole_outcome_law n m clock.bank.kept.shape added xs row
