-- A bank's step over a table as if one row, of which the bank doesn't hear, had its outcome already.
use Rattle.std.proofs.Common.{◌≡◌, ◌≢◌, ℕ, ◌-◌, ◌≤◌, true, false, List, ◌++◌, length, Some, sym, ap, subst, ◌∙◌, inl, inr, arith}
use Rattle.std.{specs.Prelude.unwrap_or, proofs.Math.ListN.length-set, proofs.lemmas.Bool.cases_eq}
use Rattle.circular_buffer.proofs.Places.{slice_get-set_same, slice_get-set_other}
use Rattle.cell_rows.specs.Device.{ArrayState}
use Rattle.masked_bytes.specs.Entries.{has_row}
use Rattle.result_rows.specs.{Table.{HasRow, outcome_at, with_outcome}, declared.Outcome.Outcome}
use Rattle.result_rows.specs.declared.Outcome.TheVariants as out
use Rattle.bank_model.specs.Timing.{TimedEvent}
use Rattle.clock_laws.specs.{Leads.Leads, Recording.outcome_on, Standing.{has_waiting, arrives_with}, State.ClockState}
use Rattle.module_laws.specs.Asking.{Asked}
use Rattle.bank_timing.specs.Extending.{Extends, AreOpen, IsOpen, outcome_in}
use Rattle.pcm_module.{specs.Stepping.{IsAt, IsStep}, proofs.Arriving.below_off, proofs.Moving.{no_entry, unheard, untouched, outcome_at_row, open_kept}}

module _ {n : ℕ} (row : ℕ) (o : Outcome n) where
  abbrev pub as_if : List (Outcome n) → List (Outcome n)
  as_if results = with_outcome results row o

  pub own_there : (results : List (Outcome n)) → HasRow results row → outcome_in (as_if results) row ≡ o
  own_there results has = ap (λ found. unwrap_or found out.Unset) (slice_get-set_same results (row - 1) o (omega (arith, has.above, has.within)))

  at_other : (results : List (Outcome n)) (other : ℕ) → 1 ≤ row → 1 ≤ other → other ≢ row → outcome_at (as_if results) other ≡ outcome_at results other
  at_other results other one some off = slice_get-set_other results (row - 1) (other - 1) o (λ e. off (omega (arith, e, one, some)))

  pub other_there : (results : List (Outcome n)) (other : ℕ) → 1 ≤ row → 1 ≤ other → other ≢ row → outcome_in (as_if results) other ≡ outcome_in results other
  other_there results other one some off = ap (λ found. unwrap_or found out.Unset) (at_other results other one some off)

  pub rows_as_if : (results : List (Outcome n)) → length (as_if results) ≡ length results
  rows_as_if results = length-set results (row - 1) o

  -- a row that is open in it is open in the table, where the row's outcome isn't the lack of one
  open_back : o ≢ out.Unset → (results : List (Outcome n)) → HasRow results row → (other : ℕ) → IsOpen (as_if results) other → IsOpen results other
  open_back told results has other is = elim (cases_eq other row) [
    | inl same ↦ absurd (told (sym (own_there results has) ∙ ap (λ found. unwrap_or found out.Unset) (subst (λ (r : ℕ). outcome_at (as_if results) r ≡ Some out.Unset) same is.unset)))
    | inr off ↦ record {
      exists = record { above = is.exists.above; within = subst (λ (k : ℕ). other ≤ k) (rows_as_if results) is.exists.within };
      unset = sym (at_other results other has.above is.exists.above off) ∙ is.unset;
    }
  ]

  -- the rows that stand in a bank are open, where they are so in it
  pub opens_back : o ≢ out.Unset → {m e : ℕ} (clock : ClockState n m e) (results : List (Outcome n)) → HasRow results row → AreOpen clock.bank (as_if results) → AreOpen clock.bank results
  opens_back told clock results has are = record {
    queued = λ other there. open_back told results has other (are.queued other there);
    waiting = λ other there. open_back told results has other (are.waiting other there);
  }

module _ {n m e : ℕ} (row : ℕ) (o : Outcome n) (xs added : List (TimedEvent n m)) (clock next : ClockState n m e) (before after : ArrayState n m) (results recorded : List (Outcome n))
    (leads : Leads xs clock before) (ext : Extends xs added clock next before after results recorded) (has : HasRow results row) (above : next.bank.rows_below ≤ row) where
  off : arrives_with (added ++ xs) row ≡ false
  off = below_off (added ++ xs) next.bank.rows_below row ext.leads.holds.rows above

  has_on : HasRow recorded row
  has_on = record { above = has.above; within = subst (λ (k : ℕ). row ≤ k) (sym ext.rows) has.within }

  -- the row stays open
  pub stays_open : IsOpen results row → IsOpen recorded row
  stays_open is = open_kept results recorded row ext.rows (untouched xs clock before leads added next after results recorded ext row has off) is

  -- the bank's rows are other ones
  stand_on : (other : ℕ) → (has_row next.bank.kept.entries row ≡ false) → (has_row next.bank.kept.entries other ≡ true) → other ≢ row
  stand_on other none there same = let gone : has_row next.bank.kept.entries other ≡ false = subst (λ (r : ℕ). has_row next.bank.kept.entries r ≡ false) (sym same) none in absurd (cc)

  wait_on : (other : ℕ) → (has_waiting next.bank.waiting row ≡ false) → (has_waiting next.bank.waiting other ≡ true) → other ≢ row
  wait_on other none there same = let gone : has_waiting next.bank.waiting other ≡ false = subst (λ (r : ℕ). has_waiting next.bank.waiting r ≡ false) (sym same) none in absurd (cc)

  open_as_if : (other : ℕ) → other ≢ row → IsOpen recorded other → IsOpen (as_if row o recorded) other
  open_as_if other apart is = open_kept recorded (as_if row o recorded) other (rows_as_if row o recorded) (other_there row o recorded other has.above is.exists.above apart) is

  pub at_as_if : (tick rows : ℕ) → IsAt tick rows next recorded → IsAt tick rows next (as_if row o recorded)
  at_as_if tick rows at = record {
    now = at.now;
    going = at.going;
    below = at.below;
    open_rows = record {
      queued = λ other there. open_as_if other (stand_on other none.0 there) (at.open_rows.queued other there);
      waiting = λ other there. open_as_if other (wait_on other none.1 there) (at.open_rows.waiting other there);
    };
  }
    where
      none : (has_row next.bank.kept.entries row ≡ false) × (has_waiting next.bank.waiting row ≡ false)
      none = no_entry (added ++ xs) next after ext.leads row off

  pub extends_as_if : Extends xs added clock next before after (as_if row o results) (as_if row o recorded)
  extends_as_if = record {
    leads = ext.leads;
    shape = ext.shape;
    pace = ext.pace;
    adds = ext.adds;
    rows = rows_as_if row o recorded ∙ ext.rows ∙ sym (rows_as_if row o results);
    outcomes = λ other there. elim (cases_eq other row) [
      | inl same ↦ subst (λ (r : ℕ). outcome_in (as_if row o recorded) r ≡ outcome_on clock.bank.kept.shape added xs (outcome_in (as_if row o results)) r) (sym same)
          (own_there row o recorded has_on ∙ sym (unheard xs clock before leads added next after results recorded ext row (outcome_in (as_if row o results)) off ∙ own_there row o results has))
      | inr apart ↦
          other_there row o recorded other has.above there.above apart
          ∙ ext.outcomes other (record { above = there.above; within = subst (λ (k : ℕ). other ≤ k) (rows_as_if row o results) there.within })
          ∙ outcome_at_row clock.bank.kept.shape added xs (outcome_in results) (outcome_in (as_if row o results)) other (sym (other_there row o results other has.above there.above apart))
    ];
  }

  pub step_as_if : (a : Asked n) → IsStep xs added a clock next before after results recorded → IsStep xs added a clock next before after (as_if row o results) (as_if row o recorded)
  step_as_if a s = record { extends = extends_as_if; arrives = s.arrives; alone = s.alone }
