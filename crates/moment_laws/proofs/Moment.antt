-- At any moment nothing is lost.
use Rattle.std.proofs.Common.{◌≡◌, ℕ, ◌*◌, ◌<◌, true, List, [], refl, sym, ap, subst, ◌∙◌, arith}
use Rattle.std.{specs.Prelude.{All, IsSomeAnd, IsTrue, Option, None, Some, length, map, slice_get, unwrap_or}, proofs.Math.Nat.mod-lt}
use Rattle.std.proofs.{lemmas.List.Elements.{All-map, All-weaker}, lemmas.Nat.mul-le}
use Rattle.masked_bytes.specs.Entries.{has_row}
use Rattle.cell_rows.specs.Device.{ArrayState}
use Rattle.trace_reader.specs.declared.event.Event.{Event}
use Rattle.result_rows.specs.{declared.Outcome.Outcome, declared.Outcome.TheVariants.Unset}
use Rattle.row_rules.specs.{Lines.IsOfLines, Rows.{asks_write, each_row, newest}, declared.Row.Row}
use Rattle.bank_shape.specs.{declared.BankShape.BankShape, declared.pace.Pace.Pace}
use Rattle.bank_model.specs.{Events.newest as newest_by, Timing.{TimedEvent, core}}
use Rattle.bank_laws.{specs.Laws.IsSized, specs.Outcomes.table_of, proofs.Serves.newest_same, proofs.Settling.opens}
use Rattle.module_shape.specs.{Addresses.{module_of, bank_shape}, Limits.{IsShape, total_of}, declared.raw.RawShape.RawShape}
use Rattle.module_laws.{specs.Asking.{Asked, row_with, asked_of}, proofs.Serving.newest_in_bank, proofs.Tables.rows_of_asked}
use Rattle.ecp_line.specs.ArrayLines.{decoded, is_worn_at}
use Rattle.end_laws.specs.EndLaws.{end_of}
use Rattle.right_runs.specs.{Banks.{bank_of_line, line_in_bank, pacing_in}, Ends.EndsWithTo, Runs.EndsTo, Tables.bank_table}
use Rattle.clock_laws.specs.{Ending.LeavingLaw, State.ClockState}
use Rattle.answered_laws.specs.Answered.{is_served_so_far}
use Rattle.bank_timing.specs.Extending.{outcome_in}
use Rattle.run_laws.{specs.FinishedLaws.{LinesLaw, ends_of}, proofs.Finished.sized as bank-sized}
use Rattle.pcm_module.specs.{Asking.asked_for, Replaying.{BankReplays, Replays}, State.{ModuleState, bank_at, first_bank, stand_now}}
use Rattle.read_moments.{specs.Reads.{ReadsLaw, standing}, proofs.Rows.{IsRight, bank-standing, rows-stand}}
use Rattle.row_stream.{specs.Answering.backlog_of, proofs.Tables.rows-are}
use Rattle.moment_laws.specs.{Backlogs.CountsBacklog, Banks.MeanwhileLaw, Moments.{IsQueuedNow, rows_now}}
use Rattle.moment_laws.proofs.{Counting.{entries-counted, waiting-counted}, Queueing.{IsQueuedBy, by_lines, queued-so-far}}

-- what holds of the bank that is there holds of the bank of that number
there : {n m e : ℕ} (module_ : ModuleState n m e) (P : ClockState n m e → Type 0) (bank : ℕ) → IsSomeAnd (slice_get module_.banks bank) P → P (bank_at module_ bank)
there {n = n} {m = m} {e = e} module_ P bank holds = by (slice_get module_.banks bank) holds
  where
    by : (o : Option (ClockState n m e)) → IsSomeAnd o P → P (unwrap_or o (first_bank module_.shape bank))
    by None p = absurd p
    by (Some clock) p = p

module _ (lines : LinesLaw) {n m e : ℕ} (events : List (Event n)) (h : ℕ → List (TimedEvent n m)) (module_ : ModuleState n m e) (array : ArrayState n m)
    (outcomes : List (Outcome n)) (is : IsShape module_.shape) (size : length outcomes ≡ length events)
    (replays : Replays h (asked_for events) module_ array outcomes) where
  abbrev raw : RawShape
  raw = module_.shape

  abbrev home : ℕ → ℕ
  home = bank_of_line raw module_.seed

  abbrev number : ℕ → ℕ
  number = line_in_bank raw module_.seed

  abbrev rows : List (Row n)
  rows = map (row_with (outcome_in outcomes)) (asked_for events)

  -- what was asked of a bank
  abbrev asked-of : ℕ → List (Asked n)
  asked-of bank = asked_of home number bank (asked_for events)

  abbrev IsBank : ℕ → ClockState n m e → Type 0
  IsBank bank clock =
      BankReplays (bank_shape (module_of raw) bank) (pacing_in raw) module_.tick module_.rows_below (h bank) (asked-of bank) array outcomes clock

  at-bank : (bank : ℕ) → bank < raw.banks → IsBank bank (bank_at module_ bank)
  at-bank bank exists = there module_ (λ clock. IsBank bank clock) bank (replays.banks bank exists)

  -- the rows of a bank as they stand are those of its history
  in-bank : (bank : ℕ) → bank < raw.banks → bank_table home number bank (map standing rows) ≡ table_of (bank_shape (module_of raw) bank) (h bank)
  in-bank bank exists =
      let its = at-bank bank exists in
      bank-standing home number bank rows ∙ ap (map standing) (rows_of_asked home number bank (outcome_in outcomes) (asked_for events))
      ∙ rows-stand (bank_shape (module_of raw) bank) (h bank) (outcome_in outcomes) (h bank) (asked-of bank) its.arrived its.recorded

  -- each is served that has an outcome
  pub all-served : ReadsLaw → IsTrue (each_row is_served_so_far (rows_now events outcomes) [])
  all-served reads =
      subst (λ (rs : List (Row n)). IsTrue (each_row is_served_so_far (map standing rs) [])) (rows-are events outcomes size)
      (reads n m e h (asked_for events) module_ array outcomes is replays)

  -- and by them each bank stands as where the power stays off
  pub all-end : LeavingLaw → MeanwhileLaw → EndsTo e raw module_.seed true (rows_now events outcomes) array (ends_of h (bank_at module_))
  all-end leaving meanwhile bank exists =
      let its = at-bank bank exists in
      let clock = bank_at module_ bank in
      let shape = clock.bank.kept.shape in
      let sized : IsSized shape clock.pace =
      subst (λ (s : BankShape). IsSized s clock.pace) (sym its.shaped)
      (subst (λ (p : Pace). IsSized (bank_shape (module_of raw) bank) p) (sym its.paced) (bank-sized raw bank is)) in
      let stands : EndsWithTo true shape (is_worn_at e array) (decoded e array) (table_of shape (h bank)) (end_of clock.bank.kept (core (h bank))) =
      meanwhile n m e clock.pace (h bank) clock.bank array sized its.leads.lawful its.leads.holds (leaving n m e (h bank) clock array its.leads).halted in
      subst (λ (rs : List (Row n)). EndsWithTo true (bank_shape (module_of raw) bank) (is_worn_at e array) (decoded e array) (bank_table home number bank (map standing rs)) (end_of clock.bank.kept (core (h bank))))
      (rows-are events outcomes size)
      (subst (λ (rs : List (Row n)). EndsWithTo true (bank_shape (module_of raw) bank) (is_worn_at e array) (decoded e array) rs (end_of clock.bank.kept (core (h bank)))) (sym (in-bank bank exists))
      (subst (λ (s : BankShape). EndsWithTo true s (is_worn_at e array) (decoded e array) (table_of s (h bank)) (end_of clock.bank.kept (core (h bank)))) its.shaped stands))

  -- as many of them wait there as a query tells
  pub all-backlogs : (bank : ℕ) → bank < raw.banks → CountsBacklog (bank_table home number bank (rows_now events outcomes)) (backlog_of bank (bank_at module_ bank))
  all-backlogs bank exists =
      let its = at-bank bank exists in
      let clock = bank_at module_ bank in
      let counts : CountsBacklog (table_of clock.bank.kept.shape (h bank)) (backlog_of bank clock) = record {
        writes = entries-counted clock.pace (h bank) clock.bank array its.leads.lawful its.leads.holds;
        reads = waiting-counted clock.pace (h bank) clock.bank array its.leads.lawful its.leads.holds;
      } in
      subst (λ (rs : List (Row n)). CountsBacklog (bank_table home number bank (map standing rs)) (backlog_of bank clock)) (rows-are events outcomes size)
      (subst (λ (rs : List (Row n)). CountsBacklog rs (backlog_of bank clock)) (sym (in-bank bank exists))
      (subst (λ (s : BankShape). CountsBacklog (table_of s (h bank)) (backlog_of bank clock)) its.shaped counts))

  -- of a line
  module _ (line : ℕ) (exists : line < total_of raw) where
    abbrev bank : ℕ
    bank = home line

    abbrev own : ℕ
    own = number line

    bank-there : bank < raw.banks
    bank-there = (lines raw module_.seed is).exists line exists

    own-there : own < raw.regions * raw.lines
    own-there = let some = mul-le 1 4 raw.regions raw.lines is.some_regions is.some_lines in mod-lt _ (omega (arith, some))

    its : IsBank bank (bank_at module_ bank)
    its = at-bank bank bank-there

    abbrev shape : BankShape
    shape = (bank_at module_ bank).bank.kept.shape

    pub by-history : stand_now module_ array line ≡ newest_by (core (h bank)) own
    by-history = its.leads.holds.newest own (rw its.shaped own-there)

    by-table : newest_by (core (h bank)) own ≡ newest (table_of shape (h bank)) own
    by-table =
        sym (newest_same shape (bank_at module_ bank).pace e (h bank) [] (h bank) own its.leads.lawful
        (opens shape (bank_at module_ bank).pace e (h bank) its.leads.lawful) refl)

    by-bank : newest (bank_table home number bank (map standing rows)) own ≡ newest (table_of shape (h bank)) own
    by-bank = ap (λ (rs : List (Row n)). newest rs own) (in-bank bank bank-there ∙ ap (λ (s : BankShape). table_of s (h bank)) (sym its.shaped))

    of-lines : All (λ (r : Row n). IsOfLines (total_of raw) r.asks) (map standing rows)
    of-lines =
        All-map (λ (r : Row n). IsOfLines (total_of raw) r.asks) standing rows
        (All-map (λ (r : Row n). IsOfLines (total_of raw) r.asks) (row_with (outcome_in outcomes)) (asked_for events) replays.exist)

    pub by-rows : stand_now module_ array line ≡ newest (rows_now events outcomes) line
    by-rows =
        by-history ∙ by-table ∙ sym by-bank
        ∙ newest_in_bank raw.banks (total_of raw) home number (lines raw module_.seed is) line exists (map standing rows) of-lines
        ∙ ap (λ (rs : List (Row n)). newest (map standing rs) line) (rows-are events outcomes size)

  -- a row stands in the queue of a bank exactly where its outcome isn't known yet
  abbrev StandsIn : ℕ → ℕ → Type 0
  StandsIn bank row =
      (outcome_in outcomes row ≡ Unset → IsTrue (has_row (bank_at module_ bank).bank.kept.entries row))
      × (IsTrue (has_row (bank_at module_ bank).bank.kept.entries row) → outcome_in outcomes row ≡ Unset)

  bank-queued : (bank : ℕ) → bank < raw.banks → All (λ (a : Asked n). IsTrue (asks_write a.asks) → StandsIn bank a.row) (asked-of bank)
  bank-queued bank exists =
      All-weaker (λ (a : Asked n). IsQueuedBy shape pace e (h bank) (outcome_in outcomes) a) (λ (a : Asked n). IsTrue (asks_write a.asks) → StandsIn bank a.row)
      (λ a queued asked. (
        λ unset. rw its.leads.holds.entries (queued asked unset),
        λ stands. ap (λ (o : Option (Outcome n)). unwrap_or o Unset) (its.open_rows.queued a.row stands).unset,
      ))
      (asked-of bank)
      (queued-so-far shape pace e (h bank) (outcome_in outcomes) [] (h bank) (asked-of bank) its.leads.lawful (opens shape pace e (h bank) its.leads.lawful) refl
      its.arrived right)
    where
      its : IsBank bank (bank_at module_ bank)
      its = at-bank bank exists

      shape : BankShape
      shape = (bank_at module_ bank).bank.kept.shape

      pace : Pace
      pace = (bank_at module_ bank).pace

      right : All (IsRight shape (h bank) (outcome_in outcomes)) (asked-of bank)
      right =
          subst (λ (s : BankShape). All (IsRight s (h bank) (outcome_in outcomes)) (asked-of bank)) (sym its.shaped) its.recorded

  pub all-queued : All (IsQueuedNow module_ outcomes) (asked_for events)
  all-queued =
      by_lines home number raw.banks (total_of raw) (λ line lt. (lines raw module_.seed is).exists line lt) StandsIn (asked_for events) replays.exist bank-queued
