-- What a snapshot says, by the histories that led to the module and the array of which it tells.
use Rattle.std.proofs.Common.{◌≡◌, ℕ, zero, suc, ◌+◌, ◌*◌, ◌/◌, ◌%◌, ◌<◌, ◌≤◌, Bool, List, [], ◌∷◌, ◌++◌, length, replicate, refl, sym, ap, subst, ◌∙◌, arith}
use Rattle.std.{specs.Prelude.{IsSomeAnd, Option, None, Some, slice_get, unwrap_or}, proofs.lemmas.Nat.{div-add-mod', div_below, mod_below}}
use Rattle.cell_rows.specs.{Device.ArrayState, Told.most}
use Rattle.trace_reader.specs.declared.event.Event.{Event}
use Rattle.result_rows.specs.{declared.Outcome.Outcome, declared.Outcome.TheVariants.Unset}
use Rattle.spare_pool.specs.Table.{Table, used_by}
use Rattle.bank_shape.specs.{Shape.lines_in, declared.BankShape.BankShape}
use Rattle.bank_model.specs.{History.retired, Sensing.pulses_of, Timing.{TimedEvent, core}}
use Rattle.module_shape.specs.{Addresses.{array_lines_of, bank_shape, module_of}, declared.raw.RawShape.RawShape}
use Rattle.clock_laws.specs.{Leads.Leads, State.ClockState}
use Rattle.end_laws.{specs.EndLaws.IsEndOf, proofs.Used.used-same}
use Rattle.right_runs.specs.{Ends.BankEnd, Roles.used_spares}
use Rattle.run_laws.specs.Finishing.{IsFinishedTo}
use Rattle.module_laws.specs.Asking.{Asked as AskedRow}
use Rattle.pcm_module.specs.{Asking.asked_for, Replaying.{Replays, ReplaysIn}, Roles.{spares_used, spares_used_in}, State.{AreEndsOf, ModuleState, bank_at, first_bank}}
use Rattle.run_text.specs.{Counting.counts_of, Pulses.{pulses_in_all, pulses_of_first}, declared.counts.OutcomeCounts.OutcomeCounts}
use Rattle.row_printer.specs.{Printing.table_of, Telling.{outcomes_in, recorded, TellsOnce}, declared.snapshot.Snapshot.Snapshot, declared.told.ArrayWear.ArrayWear}
use Rattle.row_printer.specs.{declared.told.Told.Told, declared.told.Told.TheVariants.{Became, Bank, Looked, Peeked, Settled}}
use Rattle.wear_totals.specs.Wear.{mean_of, wear_of}
use Rattle.row_stream.specs.{Looking.IsSnapshot, Serving.HasServed}
use Rattle.snapshot_laws.{specs.Rising.{CountsRise, Rises}, proofs.Histories.{given_in, given-on, mean-on, most-on, pulses-on, sum-on, u64-on}}
use Rattle.snapshot_laws.proofs.Tables.{counts-on, counts-stand, once-left, table-rises}

-- ---- what leads there

-- these histories of its banks led to a module over an array
pub record IsLed {n m e : ℕ} (raw : RawShape) (h : ℕ → List (TimedEvent n m)) (module_ : ModuleState n m e) (array : ArrayState n m) : Type 0 where
  pub shape : module_.shape ≡ raw
  pub size : array.lines ≡ raw.banks * array_lines_of (module_of raw)
  pub shapes : (bank : ℕ) → bank < raw.banks → (bank_at module_ bank).bank.kept.shape ≡ bank_shape (module_of raw) bank
  pub leads : (bank : ℕ) → bank < raw.banks → Leads (h bank) (bank_at module_ bank) array

-- what holds of the bank that is there holds of the bank of that number
there : {X : Type 0} (P : X → Type 0) (o : Option X) (d : X) → IsSomeAnd o P → P (unwrap_or o d)
there P (Some x) d h = h
there P None d h = absurd h

module _ {n m e : ℕ} where
  led-own : (h : ℕ → List (TimedEvent n m)) (asked : List (AskedRow n)) (module_ : ModuleState n m e) (array : ArrayState n m) (outcomes : List (Outcome n))
      → Replays h asked module_ array outcomes → IsLed module_.shape h module_ array
  led-own h asked module_ array outcomes had =
      let Own : ℕ → ClockState n m e → Type 0 = λ bank. ReplaysIn module_ bank (h bank) asked array outcomes in
      let at : (bank : ℕ) → bank < module_.shape.banks → Own bank (bank_at module_ bank) = λ bank below. there (Own bank) (slice_get module_.banks bank) (first_bank module_.shape bank) (had.banks bank below) in
      record { shape = refl; size = had.size; shapes = λ bank below. (at bank below).shaped; leads = λ bank below. (at bank below).leads }

  pub led-served : (raw : RawShape) (seed : ℕ) (events : List (Event n)) (h : ℕ → List (TimedEvent n m)) (module_ : ModuleState n m e) (array : ArrayState n m) (outcomes : List (Outcome n))
      → HasServed raw seed events h module_ array outcomes → IsLed raw h module_ array
  led-served raw seed events h module_ array outcomes served =
      subst (λ (r : RawShape). IsLed r h module_ array) served.shape (led-own h (asked_for events) module_ array outcomes served.replays)

  pub led-ended : {raw : RawShape} {seed : ℕ} (h : ℕ → List (TimedEvent n m)) (asked : List (AskedRow n)) (module_ : ModuleState n m e) (array : ArrayState n m) {off : Bool} {outcome : ℕ → Outcome n}
      → module_.shape ≡ raw → IsFinishedTo raw seed off h asked (bank_at module_) array outcome → IsLed raw h module_ array
  led-ended h asked module_ array shape finished = record { shape = shape; size = finished.size; shapes = finished.shapes; leads = finished.leads }

  -- ---- pulses

  -- the pulses of a line are those of the history of its bank
  line-led : (raw : RawShape) (h : ℕ → List (TimedEvent n m)) (module_ : ModuleState n m e) (array : ArrayState n m) → IsLed raw h module_ array → (line : ℕ) → line < array.lines
      → (array.line line).pulses ≡ pulses_of (h (line / array_lines_of (module_of raw))) line
  line-led raw h module_ array led line below =
      let size : ℕ = array_lines_of (module_of raw) in
      let bank : ℕ = line / size in
      let at : ℕ = line % size in
      let within : line < raw.banks * size = omega (arith, below, led.size) in
      let some : 0 < size = some-lines size raw.banks line within in
      let exists : bank < raw.banks = div_below line size raw.banks some within in
      let P : BankShape → Type 0 = λ shape. at < lines_in shape → (array.line (shape.base + at)).pulses ≡ pulses_of (h bank) (shape.base + at) in
      let own : P (bank_shape (module_of raw) bank) = subst P (led.shapes bank exists) ((led.leads bank exists).pulses at) in
      let whole : bank * size + at ≡ line = div-add-mod' line size in
      subst (λ (l : ℕ). (array.line l).pulses ≡ pulses_of (h bank) l) whole (own (mod_below line size some))
    where
      some-lines : (size banks line : ℕ) → line < banks * size → 0 < size
      some-lines zero banks line below = absurd (omega (arith, below))
      some-lines (suc size) banks line below = omega arith

  -- ---- spares

  given-led : (raw : RawShape) (h : ℕ → List (TimedEvent n m)) (module_ : ModuleState n m e) (array : ArrayState n m) → IsLed raw h module_ array → (ends : ℕ → BankEnd) → AreEndsOf module_ ends
      → spares_used module_.shape ends ≡ given_in h raw.banks
  given-led raw h module_ array led ends are = ap (λ (r : RawShape). spares_used r ends) led.shape ∙ some raw.banks (λ bank below. below)
    where
      own : (bank : ℕ) → bank < raw.banks → used_spares (bank_shape (module_of raw) bank) (ends bank).table ≡ length (retired (core (h bank)))
      own bank below =
          let clock : ClockState n m e = bank_at module_ bank in
          let leads : Leads (h bank) clock array = led.leads bank below in
          let exists : bank < module_.shape.banks = subst (λ (r : RawShape). bank < r.banks) (sym led.shape) below in
          let end : IsEndOf clock.bank.kept (ends bank) = there (λ (c : ClockState n m e). IsEndOf c.bank.kept (ends bank)) (slice_get module_.banks bank) (first_bank module_.shape bank) (are bank exists) in
          let used : used_by clock.bank.kept.table ≡ used_spares clock.bank.kept.shape (ends bank).table = used-same clock.bank.kept leads.holds.kept (ends bank).table (λ slot lt. end.table slot lt) in
          let same : used_spares (bank_shape (module_of raw) bank) (ends bank).table ≡ used_by clock.bank.kept.table =
          sym (subst (λ (s : BankShape). used_by clock.bank.kept.table ≡ used_spares s (ends bank).table) (led.shapes bank below) used) in
          same ∙ ap (λ (t : Table). used_by t) leads.holds.table

      some : (banks : ℕ) → ((bank : ℕ) → bank < banks → bank < raw.banks) → spares_used_in raw ends banks ≡ given_in h banks
      some zero within = refl
      some (suc banks) within =
          let rest = some banks (λ bank below. within bank (omega (arith, below))) in
          rw (own banks (within banks (omega arith)), rest) refl

-- ---- snapshots

snapshot-same : (one two : Snapshot) → one.rows ≡ two.rows → one.tick ≡ two.tick → one.counts ≡ two.counts → one.retired ≡ two.retired → one.wear ≡ two.wear → one ≡ two
snapshot-same one two rows tick counts retired wear =
    ap (λ (x : ℕ). let s : Snapshot = record { rows = x; tick = one.tick; counts = one.counts; retired = one.retired; wear = one.wear } in s) rows
    ∙ ap (λ (x : ℕ). let s : Snapshot = record { rows = two.rows; tick = x; counts = one.counts; retired = one.retired; wear = one.wear } in s) tick
    ∙ ap (λ (x : OutcomeCounts). let s : Snapshot = record { rows = two.rows; tick = two.tick; counts = x; retired = one.retired; wear = one.wear } in s) counts
    ∙ ap (λ (x : ℕ). let s : Snapshot = record { rows = two.rows; tick = two.tick; counts = two.counts; retired = x; wear = one.wear } in s) retired
    ∙ ap (λ (x : ArrayWear). let s : Snapshot = record { rows = two.rows; tick = two.tick; counts = two.counts; retired = two.retired; wear = x } in s) wear

module _ {n m : ℕ} where
  -- what a snapshot says of rows and of what they led to
  abbrev pub standing : (raw : RawShape) (e places at : ℕ) → List (Told n) → (ℕ → List (TimedEvent n m)) → ArrayState n m → Snapshot
  standing raw e places at told h array =
      record { rows = places; tick = at; counts = counts_of (table_of places told); retired = given_in h raw.banks; wear = wear_of e array }

module _ {n m e : ℕ} where
  pub says : (raw : RawShape) (places at : ℕ) (told : List (Told n)) (h : ℕ → List (TimedEvent n m)) (module_ : ModuleState n m e) (array : ArrayState n m) (one : Snapshot)
      → IsLed raw h module_ array → IsSnapshot places at told module_ array one → one ≡ standing raw e places at told h array
  says raw places at told h module_ array one led is =
      let retired : one.retired ≡ given_in h raw.banks = is.retired.2 ∙ given-led raw h module_ array led is.retired.0 is.retired.1 in
      snapshot-same one (standing raw e places at told h array) is.rows is.tick is.counts retired is.wear

-- ---- lines told

module _ {n : ℕ} where
  outcomes-both : (xs ys : List (Told n)) → outcomes_in (xs ++ ys) ≡ outcomes_in xs ++ outcomes_in ys
  outcomes-both [] ys = refl
  outcomes-both (Became row outcome ∷ xs) ys = ap (λ (rest : List (ℕ × Outcome n)). (row, outcome) ∷ rest) (outcomes-both xs ys)
  outcomes-both (Bank tick backlog ∷ xs) ys = outcomes-both xs ys
  outcomes-both (Looked tick wear ∷ xs) ys = outcomes-both xs ys
  outcomes-both (Peeked tick newest ∷ xs) ys = outcomes-both xs ys
  outcomes-both (Settled tick ∷ xs) ys = outcomes-both xs ys

  -- what was told first is told once
  pub once-front : (most : ℕ) (said lines told : List (Told n)) → told ≡ said ++ lines → TellsOnce most (outcomes_in told) → TellsOnce most (outcomes_in said)
  once-front most said lines told all once =
      let whole : outcomes_in told ≡ outcomes_in said ++ outcomes_in lines = ap outcomes_in all ∙ outcomes-both said lines in
      once-left most (outcomes_in said) (outcomes_in lines) (subst (λ (o : List (ℕ × Outcome n)). TellsOnce most o) whole once)

-- ---- from one to a later one

pub rises-on : (one two three : Snapshot) → Rises one two → Rises two three → Rises one three
rises-on one two three first second = record {
  rows = omega (arith, first.rows, second.rows);
  tick = omega (arith, first.tick, second.tick);
  counts = counts-on one.counts two.counts three.counts first.counts second.counts;
  retired = omega (arith, first.retired, second.retired);
  pulses = omega (arith, first.pulses, second.pulses);
  most = omega (arith, first.most, second.most);
  mean = omega (arith, first.mean, second.mean);
}

pub rises-stand : (one : Snapshot) → Rises one one
rises-stand one =
    record { rows = omega arith; tick = omega arith; counts = counts-stand one.counts; retired = omega arith; pulses = omega arith; most = omega arith; mean = omega arith }

module _ {n m e : ℕ} (raw : RawShape) where
  -- what stands behind later rows, with what was told of them and the events that were added, is no less
  pub standing-rises : (rows_all few places at behind : ℕ) (first told more : List (Told n)) (h added : ℕ → List (TimedEvent n m)) (one two : ModuleState n m e) (before after : ArrayState n m)
      → few ≤ places → at ≤ behind → told ≡ first ++ more → TellsOnce rows_all (outcomes_in told)
      → IsLed raw h one before → IsLed raw (λ bank. added bank ++ h bank) two after
      → Rises (standing raw e few at first h before) (standing raw e places behind told (λ bank. added bank ++ h bank) after)
  standing-rises rows_all few places at behind first told more h added one two before after rows tick is once was now =
      let whole : outcomes_in told ≡ outcomes_in first ++ outcomes_in more = ap outcomes_in is ∙ outcomes-both first more in
      let same : before.lines ≡ after.lines = was.size ∙ sym now.size in
      let each : (line : ℕ) → line < before.lines → (before.line line).pulses ≤ (after.line line).pulses = λ line below.
      omega (
        arith,
        line-led raw h one before was line below,
        line-led raw (λ bank. added bank ++ h bank) two after now line (omega (arith, below, same)),
        pulses-on (added (line / array_lines_of (module_of raw))) (h (line / array_lines_of (module_of raw))) line,
      ) in
      let sum : pulses_of_first before before.lines ≤ pulses_of_first after after.lines =
      subst (λ (lines : ℕ). pulses_of_first before before.lines ≤ pulses_of_first after lines) same (sum-on before after before.lines each) in
      let all = u64-on (pulses_of_first before before.lines) (pulses_of_first after after.lines) sum in
      record {
        rows = rows;
        tick = tick;
        counts = subst (λ (o : List (ℕ × Outcome n)). CountsRise (counts_of (table_of few first)) (counts_of (recorded o (replicate places Unset)))) (sym whole)
            (table-rises rows_all few places (outcomes_in first) (outcomes_in more) rows (subst (λ (o : List (ℕ × Outcome n)). TellsOnce rows_all o) whole once));
        retired = given-on added h raw.banks;
        pulses = all;
        most = subst (λ (lines : ℕ). most (λ line. (before.line line).pulses) before.lines ≤ most (λ line. (after.line line).pulses) lines) same
            (most-on (λ line. (before.line line).pulses) (λ line. (after.line line).pulses) before.lines each);
        mean = subst (λ (lines : ℕ). mean_of (pulses_in_all before) before.lines ≤ mean_of (pulses_in_all after) lines) same (mean-on (pulses_in_all before) (pulses_in_all after) before.lines all);
      }
