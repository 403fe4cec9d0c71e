-- A read and a write of a line are taken by the line's bank, and what a bank of a module has for them.
use Rattle.std.proofs.Common.{◌≡◌, ℕ, ◌+◌, ◌<◌, ◌≤◌, Bool, false, List, length, get_or, Some, refl, sym, ap, subst, ◌∙◌, eq-eqb, inl, inr, arith}
use Rattle.std.{specs.Prelude.{IsSomeAnd, slice_get, slice_set}, proofs.Math.ListN.length-set, proofs.lemmas.Bool.{ne_eqb, cases_eq}}
use Rattle.masked_bytes.proofs.Lists.{item-at}
use Rattle.circular_buffer.proofs.Places.{slice_get-set_same, slice_get-set_other}
use Rattle.cell_rows.specs.Device.{ArrayState}
use Rattle.ecp_line.specs.Layout.{IsLayout}
use Rattle.result_rows.specs.declared.Outcome.{Outcome}
use Rattle.row_rules.specs.declared.Asks.TheVariants.{Reads, Writes}
use Rattle.bank_model.specs.Timing.{TimedEvent}
use Rattle.feistel_map.specs.Network.{Network}
use Rattle.bank_shape.specs.declared.BankShape.{BankShape}
use Rattle.power_recovery.specs.{Kept.IsKept, Slots.bank_lines}
use Rattle.module_laws.specs.Asking.{Asked}
use Rattle.module_shape.specs.{Addresses.{module_of, lines_of, bank_shape}, Limits.total_of, declared.raw.RawShape.RawShape}
use Rattle.clock_laws.specs.{Leads.Leads, State.ClockState}
use Rattle.bank_timing.specs.{Extending.{IsOpen, LeavesOthersThan, last_tick}, Telling.TellsInTurn}
use Rattle.right_runs.specs.Banks.{pacing_in, bank_of_line, line_in_bank}
use Rattle.pcm_module.specs.{Replaying.{BankReplays, IsReplayed, asked_in_bank}, Shaped.{IsModule, IsBankOf}, State.ModuleState, Stepping.{MayArrive, IsAt, IsStep}, Taking.Takes}
use Rattle.pcm_module.{specs.Telling.TellsFor, proofs.Banks.{from_get, at_get}, proofs.InOrder.{of_taking, step_leaves_but}, proofs.TakenRows.takes_one}

module _ {n m e : ℕ} where
  -- a module stays one with another tick, and another bank of the same shape
  pub module_kept : (raw : RawShape) (seed : ℕ) (network : Network) (banks : List (ClockState n m e)) (old tick bank : ℕ) (clock next : ClockState n m e)
      → IsModule raw seed network banks old → tick ≤ last_tick → bank < length banks → slice_get banks bank ≡ Some clock
      → next.bank.kept.shape ≡ clock.bank.kept.shape → IsKept next.bank.kept
      → IsModule raw seed network (slice_set banks bank next) tick
  module_kept raw seed network banks old tick bank clock next is in_time within at same kept = record {
    layout = is.layout;
    in_range = is.in_range;
    mixing = is.mixing;
    count = length-set banks bank next ∙ is.count;
    of_shape = λ k there. elim (cases_eq k bank) [
      | inl here ↦ at_get (IsBank k) (slice_get (slice_set banks bank next) k) next (ap (λ (j : ℕ). slice_get (slice_set banks bank next) j) here ∙ slice_get-set_same banks bank next within)
          (record {
            shaped = same ∙ (from_get (IsBank bank) (slice_get banks bank) clock at (is.of_shape bank (subst (λ j. j < raw.banks) here there))).shaped ∙ ap (λ (j : ℕ). bank_shape (module_of raw) j) (sym here);
            kept = kept;
          })
      | inr off ↦ subst (λ o. IsSomeAnd o (IsBank k)) (sym (slice_get-set_other banks bank k next off)) (is.of_shape k there)
    ];
    in_time = in_time;
  }
    where
      IsBank : ℕ → ClockState n m e → Type 0
      IsBank k clock = IsBankOf (bank_shape (module_of raw) k) clock

  pub module_at : (raw : RawShape) (seed : ℕ) (network : Network) (banks : List (ClockState n m e)) (old tick : ℕ) → IsModule raw seed network banks old → tick ≤ last_tick → IsModule raw seed network banks tick
  module_at raw seed network banks old tick is in_time =
      record { layout = is.layout; in_range = is.in_range; mixing = is.mixing; count = is.count; of_shape = is.of_shape; in_time = in_time }

  -- a bank takes rows from a greater bound on too
  pub at_above : (tick rows above : ℕ) (clock : ClockState n m e) (results : List (Outcome n)) → IsAt tick rows clock results → rows ≤ above → IsAt tick above clock results
  at_above tick rows above clock results at le = record { now = at.now; going = at.going; below = omega (arith, at.below); open_rows = at.open_rows }

  -- a bank of a module replays by its history what was asked of it
  pub replayed_at : (old : ModuleState n m e) (before : ArrayState n m) (results : List (Outcome n)) (bank : ℕ) (clock : ClockState n m e)
      → (led : IsReplayed old before results) → bank < old.shape.banks → slice_get old.banks bank ≡ Some clock
      → BankReplays (bank_shape (module_of old.shape) bank) (pacing_in old.shape) old.tick old.rows_below (led.0 bank) (asked_in_bank old bank led.1) before results clock
  replayed_at old before results bank clock led exists is =
      from_get (BankReplays (bank_shape (module_of old.shape) bank) (pacing_in old.shape) old.tick old.rows_below (led.0 bank) (asked_in_bank old bank led.1) before results)
      (slice_get old.banks bank) clock is (led.2.banks bank exists)

-- a row that asks for a line comes to a bank, which stands at its number in the module, and where the line has this number
pub record ComesTo {n m e : ℕ} (old : ModuleState n m e) (before : ArrayState n m) (results : List (Outcome n)) (row tick line bank at : ℕ) (clock : ClockState n m e) : Type 0 where
  pub led : IsReplayed old before results
  pub forward : old.tick ≤ tick
  pub above : old.rows_below ≤ row
  pub of_lines : line < total_of old.shape
  pub fresh : IsOpen results row
  pub home : bank ≡ bank_of_line old.shape old.seed line
  pub number : at ≡ line_in_bank old.shape old.seed line
  pub exists : bank < old.shape.banks
  pub of_bank : at < lines_of (module_of old.shape)
  pub within : bank < length old.banks
  pub is : slice_get old.banks bank ≡ Some clock

-- what a read and a write ask for says that the row comes to the bank at which the line was placed
pub comes : {n m e row tick line bank at : ℕ} {old now : ModuleState n m e} {network : Network} {before : ArrayState n m} {results : List (Outcome n)} {clock : ClockState n m e}
    → old ≡ now → IsModule old.shape old.seed network old.banks old.tick
    → IsReplayed now before results → now.tick ≤ tick → now.rows_below ≤ row → line < total_of now.shape → IsOpen results row
    → bank ≡ bank_of_line now.shape now.seed line → at ≡ line_in_bank now.shape now.seed line → bank < now.shape.banks → at < lines_of (module_of now.shape)
    → clock ≡ get_or old.banks bank clock → ComesTo old before results row tick line bank at clock
comes {n = n} {m = m} {e = e} {row = row} {tick = tick} {line = line} {bank = bank} {at = at} {network = network} {before = before} {results = results} {clock = clock}
    same inv led forward above of_lines fresh home number exists of_bank value =
    subst (λ (o : ModuleState n m e). IsModule o.shape o.seed network o.banks o.tick → clock ≡ get_or o.banks bank clock → ComesTo o before results row tick line bank at clock) (sym same)
    (λ inv value.
    let within = subst (λ (k : ℕ). bank < k) (sym inv.count) exists in
    record {
      led = led;
      forward = forward;
      above = above;
      of_lines = of_lines;
      fresh = fresh;
      home = home;
      number = number;
      exists = exists;
      of_bank = of_bank;
      within = within;
      is = item-at _ bank clock within value;
    }) inv value

module _ {n m e row tick line bank at : ℕ} {old : ModuleState n m e} {before : ArrayState n m} {results : List (Outcome n)} {clock : ClockState n m e}
    (c : ComesTo old before results row tick line bank at clock) where
  -- the bank replays what was asked of it
  pub bank_replays : BankReplays (bank_shape (module_of old.shape) bank) (pacing_in old.shape) old.tick old.rows_below (c.led.0 bank) (asked_in_bank old bank c.led.1) before results clock
  bank_replays = replayed_at old before results bank clock c.led c.exists c.is

  -- the bank isn't past the row's tick
  bank_forward : clock.tick ≤ tick
  bank_forward = omega (arith, bank_replays.in_time, c.forward)

  -- it has the line
  bank_has : at < bank_lines clock.bank.kept.shape
  bank_has = subst (λ (b : BankShape). at < bank_lines b) (sym bank_replays.shaped) c.of_bank

  -- the rows that it took are below
  bank_rises : clock.bank.rows_below ≤ row
  bank_rises = omega (arith, bank_replays.below, c.above)

  -- so the row may arrive there
  pub may_arrive : IsLayout n m e → tick ≤ last_tick → MayArrive row tick at clock before results
  may_arrive layout in_time =
      let b = bank_replays in
      record {
        comes = record { layout = layout; going = b.going; led = (c.led.0 bank, b.leads); forward = bank_forward; within = in_time; open_rows = b.open_rows };
        exists = bank_has;
        rises = bank_rises;
        fresh = c.fresh;
      }

  -- the module is still one with the bank that took the row
  pub taken_kept : {network : Network} {a : Asked n} {next : ClockState n m e} {after : ArrayState n m} {recorded : List (Outcome n)}
      → IsModule old.shape old.seed network old.banks old.tick → tick ≤ last_tick
      → ((xs : List (TimedEvent n m)) → Leads xs clock before → (added : List (TimedEvent n m)) × IsStep xs added a clock next before after results recorded)
      → IsModule old.shape old.seed network (slice_set old.banks bank next) tick
  taken_kept {network = network} {next = next} inv in_time step =
      let stepped = step (c.led.0 bank) bank_replays.leads in
      module_kept old.shape old.seed network old.banks old.tick tick bank clock next inv in_time c.within c.is stepped.1.extends.shape stepped.1.extends.leads.holds.kept

  -- a read that the bank took is taken by the module
  pub read_taken : {next : ClockState n m e} {after : ArrayState n m} {recorded : List (Outcome n)} → IsAt tick (row + 1) next recorded
      → ((xs : List (TimedEvent n m)) → Leads xs clock before
      → (added : List (TimedEvent n m)) × IsStep xs added (record { row = row; tick = tick; asks = Reads at }) clock next before after results recorded)
      → Takes (record { row = row; tick = tick; asks = Reads line }) old (record old { banks = slice_set old.banks bank next; tick = tick; rows_below = row + 1 }) before after results recorded
  read_taken {next} {after} {recorded} there step =
      takes_one (record { row = row; tick = tick; asks = Reads line }) old bank clock next before after results recorded
      (eq-eqb (bank_of_line old.shape old.seed line) bank (sym c.home)) (λ other off. ne_eqb (bank_of_line old.shape old.seed line) other (λ e. off (sym e ∙ sym c.home))) refl c.of_lines
      c.forward c.above c.fresh c.exists c.is there
      (λ xs leads. subst (λ (k : ℕ). (added : List (TimedEvent n m)) × IsStep xs added (record { row = row; tick = tick; asks = Reads k }) clock next before after results recorded) c.number (step xs leads)) c.led

  -- so is a write
  pub write_taken : {bytes : List ℕ} {given : List Bool} {next : ClockState n m e} {after : ArrayState n m} {recorded : List (Outcome n)} → IsAt tick (row + 1) next recorded
      → ((xs : List (TimedEvent n m)) → Leads xs clock before
      → (added : List (TimedEvent n m)) × IsStep xs added (record { row = row; tick = tick; asks = Writes at bytes given }) clock next before after results recorded)
      → Takes (record { row = row; tick = tick; asks = Writes line bytes given }) old (record old { banks = slice_set old.banks bank next; tick = tick; rows_below = row + 1 }) before after results recorded
  write_taken {bytes} {given} {next} {after} {recorded} there step =
      takes_one (record { row = row; tick = tick; asks = Writes line bytes given }) old bank clock next before after results recorded
      (eq-eqb (bank_of_line old.shape old.seed line) bank (sym c.home)) (λ other off. ne_eqb (bank_of_line old.shape old.seed line) other (λ e. off (sym e ∙ sym c.home))) refl c.of_lines
      c.forward c.above c.fresh c.exists c.is there
      (λ xs leads. subst (λ (k : ℕ). (added : List (TimedEvent n m)) × IsStep xs added (record { row = row; tick = tick; asks = Writes k bytes given }) clock next before after results recorded) c.number (step xs leads)) c.led

  -- its bank alone tells
  module _ {R : Type 0} (goes_on : R → R → Type 0) (table : R → List (Outcome n)) (one two : R) (same : table one ≡ results) (on : goes_on one two)
      (in_turn : TellsInTurn goes_on table false one two) where
    pub read_tells : {next : ClockState n m e} {after : ArrayState n m}
        → ((xs : List (TimedEvent n m)) → Leads xs clock before
        → (added : List (TimedEvent n m)) × IsStep xs added (record { row = row; tick = tick; asks = Reads at }) clock next before after results (table two))
        → TellsFor goes_on table old row (Reads line) one two
    read_tells {next = next} {after = after} step =
        let s = step (c.led.0 bank) bank_replays.leads in
        of_taking goes_on table old bank row line clock one two c.is c.home on
        (subst (λ (r : List (Outcome n)). LeavesOthersThan row clock.bank r (table two)) (sym same)
        (step_leaves_but (c.led.0 bank) s.0 clock next before after results (table two) (record { row = row; tick = tick; asks = Reads at }) bank_replays.leads s.1)) in_turn

    pub write_tells : {bytes : List ℕ} {given : List Bool} {next : ClockState n m e} {after : ArrayState n m}
        → ((xs : List (TimedEvent n m)) → Leads xs clock before
        → (added : List (TimedEvent n m)) × IsStep xs added (record { row = row; tick = tick; asks = Writes at bytes given }) clock next before after results (table two))
        → TellsFor goes_on table old row (Writes line bytes given) one two
    write_tells {bytes = bytes} {given = given} {next = next} {after = after} step =
        let s = step (c.led.0 bank) bank_replays.leads in
        of_taking goes_on table old bank row line clock one two c.is c.home on
        (subst (λ (r : List (Outcome n)). LeavesOthersThan row clock.bank r (table two)) (sym same)
        (step_leaves_but (c.led.0 bank) s.0 clock next before after results (table two) (record { row = row; tick = tick; asks = Writes at bytes given }) bank_replays.leads s.1)) in_turn
