-- What happens at one bank extends that bank's history, and the other banks' histories replay what was asked as before.
use Rattle.std.proofs.Common.{◌≡◌, ◌⊎◌, ℕ, ◌≤◌, true, false, List, ◌++◌, length, Option, Some, None, refl, sym, subst, ◌∙◌, inl, inr, arith}
use Rattle.std.specs.Prelude.{All, IsSomeAnd}
use Rattle.cell_rows.specs.Device.{ArrayState}
use Rattle.masked_bytes.specs.Entries.{has_row}
use Rattle.result_rows.specs.{Table.HasRow, declared.Outcome.Outcome}
use Rattle.row_rules.specs.{declared.Asks.Asks, declared.Asks.TheVariants.{Reads, Writes, Cuts}}
use Rattle.bank_shape.specs.{declared.BankShape.BankShape, declared.pace.Pace.Pace}
use Rattle.bank_model.specs.{Adding.{Adds, senses_of}, Timing.TimedEvent}
use Rattle.bank_laws.specs.Outcomes.{outcome_of}
use Rattle.clock_laws.{specs.Leads.Leads, specs.Standing.{has_waiting, arrives_with}, specs.State.ClockState, proofs.Elsewhere.elsewhere_law}
use Rattle.module_laws.specs.Asking.{Asked, AreAsked}
use Rattle.bank_timing.specs.Extending.{Extends, outcome_in}
use Rattle.pcm_module.{specs.Replaying.{BankReplays, IsLogged, outcome_so_far}, specs.Stepping.IsAt, proofs.Logging.{AreOff, IsOwnSense, logged_own, logged_off, added_within}}
use Rattle.pcm_module.proofs.{Moving.{untouched, told_on, open_kept, standing_named}, Naming.{is_numbered, names, not_named, of_named, All-both}}

-- a bank that replays by a tick, with rows below a bound, does so by a later one, and below a greater one
pub later_replays : {n m e : ℕ} (shape : BankShape) (pace : Pace) (tick later rows above : ℕ) (xs : List (TimedEvent n m)) (asked : List (Asked n)) (array : ArrayState n m) (results : List (Outcome n))
    (o : Option (ClockState n m e)) → tick ≤ later → rows ≤ above → IsSomeAnd o (BankReplays shape pace tick rows xs asked array results) → IsSomeAnd o (BankReplays shape pace later above xs asked array results)
later_replays shape pace tick later rows above xs asked array results None forward upward f = f
later_replays shape pace tick later rows above xs asked array results (Some clock) forward upward f = record {
  shaped = f.shaped;
  paced = f.paced;
  going = f.going;
  in_time = omega (arith, f.in_time, forward);
  below = omega (arith, f.below, upward);
  leads = f.leads;
  logged = f.logged;
  open_rows = f.open_rows;
  arrived = f.arrived;
  recorded = f.recorded;
}

module _ {n m e : ℕ} where
  -- a bank that nothing came to replays as before, where its lines and the outcomes of its rows stay
  pub stays_replayed : (shape : BankShape) (pace : Pace) (tick rows later above : ℕ) (xs : List (TimedEvent n m)) (asked : List (Asked n))
      (clock : ClockState n m e) (before after : ArrayState n m) (results recorded : List (Outcome n))
      → BankReplays shape pace tick rows xs asked before results clock
      → Leads xs clock after → IsLogged shape xs after → length recorded ≡ length results
      → All (λ c. outcome_in recorded c.row ≡ outcome_in results c.row) asked → tick ≤ later → rows ≤ above
      → BankReplays shape pace later above xs asked after recorded clock
  stays_replayed shape pace tick rows later above xs asked clock before after results recorded f leads logged rows_same same in_time below = record {
    shaped = f.shaped;
    paced = f.paced;
    going = f.going;
    in_time = omega (arith, f.in_time);
    below = omega (arith, f.below);
    leads = leads;
    logged = logged;
    open_rows = record {
      queued = λ row there. open_kept results recorded row rows_same (keeps row (inl there)) (f.open_rows.queued row there);
      waiting = λ row there. open_kept results recorded row rows_same (keeps row (inr there)) (f.open_rows.waiting row there);
    };
    arrived = f.arrived;
    recorded =
        All-both (λ (c : Asked n). outcome_in recorded c.row ≡ outcome_in results c.row) (λ (c : Asked n). outcome_in results c.row ≡ outcome_so_far shape xs c c.asks)
        (λ (c : Asked n). outcome_in recorded c.row ≡ outcome_so_far shape xs c c.asks) (λ c p q. p ∙ q) asked same f.recorded;
  }
    where
      keeps : (row : ℕ) → (has_row clock.bank.kept.entries row ≡ true) ⊎ (has_waiting clock.bank.waiting row ≡ true)
          → outcome_in recorded row ≡ outcome_in results row
      keeps row there = of_named (λ r. outcome_in recorded r ≡ outcome_in results r) asked row same (standing_named xs clock before f.leads asked f.arrived row there)

  -- the senses of events are of lines of their bank
  pub own_senses : (shape : BankShape) (xs added : List (TimedEvent n m)) (new : ClockState n m e) (array : ArrayState n m)
      → Leads (added ++ xs) new array → new.bank.kept.shape ≡ shape → All (IsOwnSense shape) (senses_of added)
  own_senses shape xs added new array leads shaped =
      subst (λ (s : BankShape). All (IsOwnSense s) (senses_of added)) shaped (added_within added xs new array leads)

  -- so is one where a row came to another bank
  pub other_replays : (shape own : BankShape) (pace : Pace) (tick rows later above : ℕ) (xs ys added : List (TimedEvent n m)) (asked : List (Asked n))
      (clock old new : ClockState n m e) (before after : ArrayState n m) (results recorded : List (Outcome n))
      → BankReplays shape pace tick rows xs asked before results clock → Leads ys old before → Extends ys added old new before after results recorded
      → old.bank.kept.shape ≡ own → AreOff own shape
      → All (λ c. HasRow results c.row) asked → All (λ c. arrives_with (added ++ ys) c.row ≡ false) asked
      → tick ≤ later → rows ≤ above → BankReplays shape pace later above xs asked after recorded clock
  other_replays shape own pace tick rows later above xs ys added asked clock old new before after results recorded f leads ext shaped off has apart in_time below =
      stays_replayed shape pace tick rows later above xs asked clock before after results recorded f
      (elsewhere_law n m e xs clock before after f.leads adds.lines adds.bounds (λ line low high. adds.others line (off' line (low, high))))
      (logged_off own added before after adds (own_senses own ys added new after ext.leads (ext.shape ∙ shaped)) shape xs off f.logged)
      ext.rows
      (All-both (λ (c : Asked n). HasRow results c.row) (λ (c : Asked n). arrives_with (added ++ ys) c.row ≡ false) (λ (c : Asked n). outcome_in recorded c.row ≡ outcome_in results c.row)
      (λ c there none. untouched ys old before leads added new after results recorded ext c.row there none) asked has apart)
      in_time below
    where
      adds : Adds own added before after
      adds = subst (λ (s : BankShape). Adds s added before after) shaped ext.adds

      off' : AreOff own clock.bank.kept.shape
      off' = subst (λ (s : BankShape). AreOff own s) (sym f.shaped) off

  -- the bank where events came replays what is asked by then, where each of these rows had its outcome so far
  pub own_extends : (shape : BankShape) (pace : Pace) (tick rows later above : ℕ) (xs added : List (TimedEvent n m)) (own asked : List (Asked n))
      (old new : ClockState n m e) (before after : ArrayState n m) (results recorded : List (Outcome n))
      → BankReplays shape pace tick rows xs own before results old → Extends xs added old new before after results recorded → AreAsked (added ++ xs) asked
      → IsAt later above new recorded
      → All (λ c. HasRow results c.row) asked
      → All (λ c. is_numbered c.asks ≡ false → names asked c.row ≡ false) asked
      → All (λ c. outcome_in results c.row ≡ outcome_so_far shape xs c c.asks) asked
      → BankReplays shape pace later above (added ++ xs) asked after recorded new
  own_extends shape pace tick rows later above xs added own asked old new before after results recorded f extends arrived at has cuts so_far = record {
    shaped = shaped;
    paced = extends.pace ∙ f.paced;
    going = at.going;
    in_time = omega (arith, at.now);
    below = at.below;
    leads = extends.leads;
    logged =
        logged_own shape added before after (subst (λ (s : BankShape). Adds s added before after) f.shaped extends.adds)
        (own_senses shape xs added new after extends.leads shaped) xs f.logged;
    open_rows = at.open_rows;
    arrived = arrived;
    recorded =
        All-both HasIt Known Told (λ c there known. told c there known) asked has
        (All-both IsCutApart Before Known (λ c apart told. (apart, told)) asked cuts so_far);
  }
    where
      shaped : new.bank.kept.shape ≡ shape
      shaped = extends.shape ∙ f.shaped

      HasIt : Asked n → Type 0
      HasIt c = HasRow results c.row

      IsCutApart : Asked n → Type 0
      IsCutApart c = is_numbered c.asks ≡ false → names asked c.row ≡ false

      Before : Asked n → Type 0
      Before c = outcome_in results c.row ≡ outcome_so_far shape xs c c.asks

      Known : Asked n → Type 0
      Known c = IsCutApart c × Before c

      Told : Asked n → Type 0
      Told c = outcome_in recorded c.row ≡ outcome_so_far shape (added ++ xs) c c.asks

      -- the outcome of a row that has a number in the history
      numbered_told : (c : Asked n) → HasRow results c.row → outcome_in results c.row ≡ outcome_of shape xs c.row → outcome_in recorded c.row ≡ outcome_of shape (added ++ xs) c.row
      numbered_told c there is =
          subst (λ (s : BankShape). outcome_in recorded c.row ≡ outcome_of s (added ++ xs) c.row) f.shaped
          (told_on xs old before f.leads added new after results recorded extends c.row there
          (subst (λ (s : BankShape). outcome_in results c.row ≡ outcome_of s xs c.row) (sym f.shaped) is))

      told : (c : Asked n) → HasIt c → Known c → Told c
      told c there known = by c.asks known.0 known.1
        where
          by : (asks : Asks n) → (is_numbered asks ≡ false → names asked c.row ≡ false) → outcome_in results c.row ≡ outcome_so_far shape xs c asks
              → outcome_in recorded c.row ≡ outcome_so_far shape (added ++ xs) c asks
          by (Reads line) apart is = numbered_told c there is
          by (Writes line bytes given) apart is = numbered_told c there is
          by Cuts apart is =
              untouched xs old before f.leads added new after results recorded extends c.row there
              (not_named c.row (added ++ xs) asked arrived (apart refl)) ∙ is
