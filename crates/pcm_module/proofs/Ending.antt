-- A bank of a module is drained, and the banks beside it stay.
use Rattle.std.proofs.Common.{◌≡◌, ◌≢◌, ℕ, Bool, true, false, if◌then◌else◌, List, ◌++◌, map, refl, sym, ap, subst, ◌∙◌, arith}
use Rattle.std.specs.Prelude.{All}
use Rattle.cell_rows.specs.Device.{ArrayState}
use Rattle.masked_bytes.specs.{Entries.has_row, declared.entry.Entry.Entry}
use Rattle.result_rows.specs.{Table.HasRow, declared.Outcome.Outcome}
use Rattle.result_rows.specs.declared.Outcome.TheVariants as out
use Rattle.row_rules.specs.{declared.Asks.Asks, declared.Asks.TheVariants.{Reads, Writes, Cuts}}
use Rattle.bank_shape.specs.{declared.BankShape.BankShape, declared.pace.Pace.Pace, declared.waiting.Waiting.Waiting}
use Rattle.bank_model.specs.{Adding.Adds, History.{Awaited, queue}, Lawful.Lawful, Timing.{TimedEvent, core}, Told.tick_of_row}
use Rattle.bank_laws.{specs.Outcomes.{outcome_of, ended}, specs.Resting.EndsIn, specs.Settling.AreOpen, proofs.Resting.ends-still, proofs.Settling.opens}
use Rattle.bank_invariant.specs.Holds.{waiting_of}
use Rattle.clock_laws.{specs.Leads.Leads, specs.Recording.outcome_on, specs.Standing.{has_waiting, arrives_with}, specs.State.ClockState, proofs.Elsewhere.elsewhere_law}
use Rattle.clock_laws.proofs.{Others.other_rows_law, Recording.whole_outcome_law, Settled.settled_law}
use Rattle.module_laws.specs.{Asking.{Asked, AreAsked}, Serves.{last_outcome, AreRecorded}}
use Rattle.bank_timing.specs.{Draining.DrainsTo, Extending.outcome_in}
use Rattle.pcm_module.{specs.Draining.IsDrainedTo, specs.Replaying.{BankReplays, IsLogged, RowsFall, outcome_so_far}, proofs.Arriving.own_asked}
use Rattle.pcm_module.proofs.{Becoming.{Becomes, all_become, ended_set}, Logging.{AreOff, logged_own, logged_off}, Moving.{outcome_at_row, off_both}}
use Rattle.pcm_module.proofs.{Naming.{is_numbered, names, not_named, All-both}, Standing.stands_not, Steps.{stays_replayed, own_senses}}

module _ {n m e : ℕ} (off : Bool) (xs added : List (TimedEvent n m)) (old new : ClockState n m e) (before after : ArrayState n m) (results recorded : List (Outcome n))
    (leads : Leads xs old before) (d : DrainsTo off xs added old new before after results recorded) where
  drained_lawful : Lawful old.bank.kept.shape old.pace e (added ++ xs)
  drained_lawful =
      subst (λ (s : BankShape). Lawful s old.pace e (added ++ xs)) d.shape
      (subst (λ (p : Pace). Lawful new.bank.kept.shape p e (added ++ xs)) d.pace d.leads.lawful)

  -- what stands in the queue in the end
  drained_queue : new.bank.kept.entries ≡ queue old.bank.kept.shape (core (added ++ xs))
  drained_queue = d.leads.holds.entries ∙ ap (λ (s : BankShape). queue s (core (added ++ xs))) d.shape

  -- no read waits in the end
  none_waits : (row : ℕ) → has_waiting new.bank.waiting row ≡ false
  none_waits row =
      ap (λ (ws : List (Waiting n)). has_waiting ws row)
      (d.leads.holds.waiting ∙ ap (λ (ws : List Awaited). map (waiting_of {n = n}) ws) (ends-still new.bank.kept.shape off new.pace (added ++ xs) d.idle).unawaited)

  -- the outcome of a row that doesn't stand in the queue in the end
  gone : (row : ℕ) → HasRow results row → has_row (queue old.bank.kept.shape (core (added ++ xs))) row ≡ false
      → outcome_in recorded row ≡ outcome_on old.bank.kept.shape added xs (outcome_in results) row
  gone row has none =
      d.outcomes row has
      ∙ ap (λ b. if b then out.Queued (tick_of_row row (added ++ xs)) else outcome_on old.bank.kept.shape added xs (outcome_in results) row)
      (ap (λ (es : List (Entry n)). has_row es row) drained_queue ∙ none)

  -- that of one that does
  queued : (row : ℕ) → HasRow results row → has_row (queue old.bank.kept.shape (core (added ++ xs))) row ≡ true
      → outcome_in recorded row ≡ out.Queued (tick_of_row row (added ++ xs))
  queued row has there =
      d.outcomes row has
      ∙ ap (λ b. if b then out.Queued (tick_of_row row (added ++ xs)) else outcome_on old.bank.kept.shape added xs (outcome_in results) row)
      (ap (λ (es : List (Entry n)). has_row es row) drained_queue ∙ there)

  -- a row that didn't arrive keeps its outcome
  pub undrained : (row : ℕ) → HasRow results row → arrives_with (added ++ xs) row ≡ false → outcome_in recorded row ≡ outcome_in results row
  undrained row has off =
      let parts = off_both row added xs off in
      let in_end = stands_not old.bank.kept.shape row (added ++ xs) off in
      let in_start = stands_not old.bank.kept.shape row xs parts.1 in
      gone row has in_end.queued
      ∙ other_rows_law n m e row added xs old before (outcome_in results) leads drained_lawful
      (ap (λ (es : List (Entry n)). has_row es row) leads.holds.entries ∙ in_start.queued)
      (ap (λ ws. has_waiting ws row) leads.holds.waiting ∙ in_start.waiting) parts.0

  -- a row with the outcome of the history, that doesn't stand in the queue in the end, has that of the longer one
  told_gone : (row : ℕ) → HasRow results row → outcome_in results row ≡ outcome_of old.bank.kept.shape xs row → has_row (queue old.bank.kept.shape (core (added ++ xs))) row ≡ false
      → outcome_in recorded row ≡ outcome_of old.bank.kept.shape (added ++ xs) row
  told_gone row has told none =
      gone row has none
      ∙ outcome_at_row old.bank.kept.shape added xs (outcome_in results) (outcome_of old.bank.kept.shape xs) row told
      ∙ whole_outcome_law n m old.bank.kept.shape added xs row

  -- a row that arrived, and doesn't stand in the queue in the end, has an outcome
  settled : (row : ℕ) → arrives_with (added ++ xs) row ≡ true → has_row (queue old.bank.kept.shape (core (added ++ xs))) row ≡ false
      → outcome_of old.bank.kept.shape (added ++ xs) row ≢ out.Unset
  settled row came none =
      subst (λ (s : BankShape). outcome_of s (added ++ xs) row ≢ out.Unset) d.shape
      (settled_law n m e row (added ++ xs) new after d.leads came (ap (λ (es : List (Entry n)). has_row es row) drained_queue ∙ none) (none_waits row))

  -- each row that was asked of the bank has its last outcome
  last_told : (own : List (Asked n)) → AreAsked (added ++ xs) own → (c : Asked n) → HasRow results c.row
      → (is_numbered c.asks ≡ false → names own c.row ≡ false)
      → outcome_in results c.row ≡ outcome_so_far old.bank.kept.shape xs c c.asks → Becomes old.bank.kept.shape (added ++ xs) c c.asks
      → outcome_in recorded c.row ≡ last_outcome old.bank.kept.shape (added ++ xs) c c.asks
  last_told own are c has = by c.asks
    where
      by : (asks : Asks n) → (is_numbered asks ≡ false → names own c.row ≡ false) → outcome_in results c.row ≡ outcome_so_far old.bank.kept.shape xs c asks
          → Becomes old.bank.kept.shape (added ++ xs) c asks → outcome_in recorded c.row ≡ last_outcome old.bank.kept.shape (added ++ xs) c asks
      by (Reads line) apart told becomes = told_gone c.row has told becomes
      by (Writes line bytes given) apart told becomes = stands (has_row (queue old.bank.kept.shape (core (added ++ xs))) c.row) refl
        where
          stands : (b : Bool) → has_row (queue old.bank.kept.shape (core (added ++ xs))) c.row ≡ b
              → outcome_in recorded c.row ≡ ended c.tick (outcome_of old.bank.kept.shape (added ++ xs) c.row)
          stands true is =
              let o : AreOpen old.bank.kept.shape (added ++ xs) = opens old.bank.kept.shape old.pace e (added ++ xs) drained_lawful in
              queued c.row has is ∙ ap (λ t. out.Queued t) becomes.0 ∙ ap (λ (o : Outcome n). ended c.tick o) (sym (o.queued c.row is))
          stands false is = told_gone c.row has told is ∙ sym (ended_set c.tick (outcome_of old.bank.kept.shape (added ++ xs) c.row) (settled c.row becomes.1 is))
      by Cuts apart told becomes = undrained c.row has (not_named c.row (added ++ xs) own are (apart refl)) ∙ told

  -- the drained bank has come to its end
  pub own_drains : (shape : BankShape) (pace : Pace) (tick rows : ℕ) (own : List (Asked n))
      → BankReplays shape pace tick rows xs own before results old → RowsFall own
      → All (λ c. HasRow results c.row) own → All (λ c. is_numbered c.asks ≡ false → names own c.row ≡ false) own
      → IsDrainedTo off shape pace (added ++ xs) own after recorded new
  own_drains shape pace tick rows own f falls has cuts = record {
    shaped = shaped;
    paced = paced;
    leads = d.leads;
    idle =
        subst (λ (s : BankShape). EndsIn off s pace (added ++ xs)) shaped
        (subst (λ (p : Pace). EndsIn off new.bank.kept.shape p (added ++ xs)) paced d.idle);
    logged =
        logged_own shape added before after (subst (λ (s : BankShape). Adds s added before after) f.shaped d.adds)
        (own_senses shape xs added new after d.leads shaped) xs f.logged;
    arrived = arrived;
    recorded =
        subst (λ (s : BankShape). AreRecorded s (added ++ xs) (outcome_in recorded) own) f.shaped
        (All-both HasIt Known Told (λ c there known. last_told own arrived c there known.0 known.1.0 known.1.1) own has
        (All-both IsCutApart Before Known (λ c apart told. (apart, told)) own cuts
        (All-both Was Has Before (λ c was becomes. (was, becomes)) own
        (subst (λ (s : BankShape). All (λ (c : Asked n). outcome_in results c.row ≡ outcome_so_far s xs c c.asks) own) (sym f.shaped) f.recorded)
        (all_become old.bank.kept.shape (added ++ xs) own arrived falls))));
  }
    where
      shaped : new.bank.kept.shape ≡ shape
      shaped = d.shape ∙ f.shaped

      paced : new.pace ≡ pace
      paced = d.pace ∙ f.paced

      arrived : AreAsked (added ++ xs) own
      arrived = own_asked added xs own d.quiet f.arrived

      HasIt : Asked n → Type 0
      HasIt c = HasRow results c.row

      IsCutApart : Asked n → Type 0
      IsCutApart c = is_numbered c.asks ≡ false → names own c.row ≡ false

      Was : Asked n → Type 0
      Was c = outcome_in results c.row ≡ outcome_so_far old.bank.kept.shape xs c c.asks

      Has : Asked n → Type 0
      Has c = Becomes old.bank.kept.shape (added ++ xs) c c.asks

      Before : Asked n → Type 0
      Before c = Was c × Has c

      Known : Asked n → Type 0
      Known c = IsCutApart c × Before c

      Told : Asked n → Type 0
      Told c = outcome_in recorded c.row ≡ last_outcome old.bank.kept.shape (added ++ xs) c c.asks

  module _ (ys : List (TimedEvent n m)) (clock : ClockState n m e) (asked : List (Asked n)) (own shape : BankShape) (pace : Pace)
      (of_own : old.bank.kept.shape ≡ own) (shaped : clock.bank.kept.shape ≡ shape) (apart_of : AreOff own shape)
      (has : All (λ c. HasRow results c.row) asked) (apart : All (λ c. arrives_with (added ++ xs) c.row ≡ false) asked) where
    adds : Adds own added before after
    adds = subst (λ (s : BankShape). Adds s added before after) of_own d.adds

    -- another bank has its history, its senses and its outcomes as before
    leads_beside : Leads ys clock before → Leads ys clock after
    leads_beside of = elsewhere_law n m e ys clock before after of adds.lines adds.bounds (λ line low high. adds.others line (off' line (low, high)))
      where
        off' : AreOff own clock.bank.kept.shape
        off' = subst (λ (s : BankShape). AreOff own s) (sym shaped) apart_of

    logged_beside : IsLogged shape ys before → IsLogged shape ys after
    logged_beside = logged_off own added before after adds (own_senses own xs added new after d.leads (d.shape ∙ of_own)) shape ys apart_of

    same_beside : All (λ c. outcome_in recorded c.row ≡ outcome_in results c.row) asked
    same_beside =
        All-both (λ (c : Asked n). HasRow results c.row) (λ (c : Asked n). arrives_with (added ++ xs) c.row ≡ false) (λ (c : Asked n). outcome_in recorded c.row ≡ outcome_in results c.row)
        (λ c there none. undrained c.row there none) asked has apart

    pub beside_replays : (tick rows : ℕ) → BankReplays shape pace tick rows ys asked before results clock → BankReplays shape pace tick rows ys asked after recorded clock
    beside_replays tick rows f =
        stays_replayed shape pace tick rows tick rows ys asked clock before after results recorded f (leads_beside f.leads) (logged_beside f.logged) d.rows same_beside (omega arith) (omega arith)

    pub beside_drained : IsDrainedTo off shape pace ys asked before results clock → IsDrainedTo off shape pace ys asked after recorded clock
    beside_drained f = record {
      shaped = f.shaped;
      paced = f.paced;
      leads = leads_beside f.leads;
      idle = f.idle;
      logged = logged_beside f.logged;
      arrived = f.arrived;
      recorded =
          All-both (λ (c : Asked n). outcome_in recorded c.row ≡ outcome_in results c.row) (λ (c : Asked n). outcome_in results c.row ≡ last_outcome shape ys c c.asks)
          (λ (c : Asked n). outcome_in recorded c.row ≡ last_outcome shape ys c c.asks) (λ c same was. same ∙ was) asked same_beside f.recorded;
    }
