-- A right run stays right where its array is only sensed.
use Rattle.std.proofs.Common.{◌≡◌, ℕ, ◌+◌, ◌<◌, Bool, List, ◌++◌, Some, refl, sym, ap, subst, ◌∙◌}
use Rattle.std.{specs.List.range_with_len, specs.Prelude.{All, nat_le, nat_lt, ◌&&◌}, proofs.Math.Path.fun_ext}
use Rattle.std.proofs.lemmas.List.Elements.{All-filter, All-from_get_or, All-map, filter-append}
use Rattle.cell_rows.specs.{Device.{ArrayState, sense_of}, declared.array.Sense.Sense}
use Rattle.row_rules.specs.declared.Row.{Row}
use Rattle.bank_shape.specs.{Shape.lines_in, declared.BankShape.BankShape, declared.pace.Pace.Pace}
use Rattle.bank_model.specs.{Adding.senses_of, Lawful.Lawful, Timing.TimedEvent}
use Rattle.right_runs.specs.{Banks.{bank_of_line, line_in_bank, pacing_in, rules_in}, Ends.BankEnd, KeepsLog.KeepsLogTo, Runs.RunsRightTo, Tables.table_in}
use Rattle.bank_laws.specs.{Laws.{LeavesArray, log_of}, Outcomes.table_of, Whole.WholeLogLaw}
use Rattle.clock_laws.specs.Ending.{LeavingLaw}
use Rattle.module_shape.specs.{Addresses.{module_of, bank_shape}, Limits.IsShape, declared.raw.RawShape.RawShape}
use Rattle.module_laws.specs.Serves.{BankTableLaw}
use Rattle.run_laws.proofs.Finished.{sized}
use Rattle.pcm_image.specs.Saved.{Saved}
use Rattle.image_laws.specs.SavedRuns.{IsLeftTo, StaysRightToLaw}
use Rattle.right_images.specs.SensedSince.{SensedSince, first_senses}

-- but for its log and what is told of energy the array is as it was
but-log : {n m : ℕ} (count : ℕ) (before after : ArrayState n m) → SensedSince count before after
    → after ≡ record { line = before.line; lines = before.lines; tears = before.tears; log = after.log; wear = before.wear; bounds = before.bounds; energy = after.energy }
but-log count before after since =
    let line : after.line ≡ before.line = fun_ext since.line in
    ap (λ l. record { line = l; lines = after.lines; tears = after.tears; log = after.log; wear = after.wear; bounds = after.bounds; energy = after.energy }) line
    ∙ ap (λ k. record { line = before.line; lines = k; tears = after.tears; log = after.log; wear = after.wear; bounds = after.bounds; energy = after.energy }) since.lines
    ∙ ap (λ k. record { line = before.line; lines = before.lines; tears = k; log = after.log; wear = after.wear; bounds = after.bounds; energy = after.energy }) since.tears
    ∙ ap (λ k. record { line = before.line; lines = before.lines; tears = before.tears; log = after.log; wear = k; bounds = after.bounds; energy = after.energy }) since.wear
    ∙ ap (λ k. record { line = before.line; lines = before.lines; tears = before.tears; log = after.log; wear = before.wear; bounds = k; energy = after.energy }) since.bounds

-- the senses that were added to the log show the pulses
pulses-shown : {n m : ℕ} (before : ArrayState n m) (count : ℕ) → All (λ s. s.pulses ≡ (before.line s.line).pulses) (first_senses before count)
pulses-shown {n} {m} before count =
    let lines = range_with_len 0 count in
    All-map (λ (s : Sense n m). s.pulses ≡ (before.line s.line).pulses) (λ line. sense_of line 0 (before.line line)) lines
    (All-from_get_or (λ (line : ℕ). (before.line line).pulses ≡ (before.line line).pulses) lines 0 (λ i lt. refl))

module _ (logs : WholeLogLaw) (leaving : LeavingLaw) (by_bank : BankTableLaw) (off : Bool) {n m : ℕ} (e : ℕ) (raw : RawShape) (seed : ℕ) (rows : List (Row n)) (array : ArrayState n m) (ends : ℕ → BankEnd)
    (s : Saved n m) (left : IsLeftTo off e raw seed rows array s) (is : IsShape raw) (was : RunsRightTo e raw seed off rows left.before ends) where
  -- the array as it was, with the log and what is told of energy as they are now
  abbrev now : ArrayState n m
  now = record { line = left.before.line; lines = left.before.lines; tears = left.before.tears; log = array.log; wear = left.before.wear; bounds = left.before.bounds; energy = array.energy }

  module _ (bank : ℕ) (exists : bank < raw.banks) where
    abbrev shape : BankShape
    shape = bank_shape (module_of raw) bank

    abbrev xs : List (TimedEvent n m)
    xs = left.history bank

    lawful : Lawful shape (pacing_in raw) e xs
    lawful =
        subst (λ (t : BankShape). Lawful t (pacing_in raw) e xs) (left.finished.shapes bank exists)
        (subst (λ (p : Pace). Lawful (left.banks bank).bank.kept.shape p e xs) (left.finished.paces bank exists) (left.finished.leads bank exists).lawful)

    leaves : LeavesArray e shape xs left.before
    leaves =
        subst (λ (t : BankShape). LeavesArray e t xs left.before) (left.finished.shapes bank exists)
        (leaving n m e xs (left.banks bank) left.before (left.finished.leads bank exists))

    leaves-now : LeavesArray e shape xs now
    leaves-now = record { pulses = leaves.pulses; retired = leaves.retired; halted = leaves.halted; exhausted = leaves.exhausted }

    table : table_in raw seed bank rows ≡ table_of shape xs
    table =
        ap (λ rs. table_in raw seed bank rs) left.rows_are
        ∙ by_bank n m shape (bank_of_line raw seed) (line_in_bank raw seed) bank xs left.trace left.outcome (left.finished.asked bank exists) (left.finished.recorded bank exists)

    keeps-log : (log : List (Sense n m)) → array.log ≡ Some log → KeepsLogTo e shape now off (rules_in e raw bank) (table_in raw seed bank rows) log
    keeps-log log told =
        let more = left.since.log log told in
        let old = more.0 in
        let extra = first_senses left.before left.sensed in
        let own : Sense n m → Bool = λ t. nat_le shape.base t.line && nat_lt t.line (shape.base + lines_in shape) in
        let split : log_of shape log ≡ senses_of xs ++ log_of shape extra =
        ap (λ l. log_of shape l) more.2 ∙ filter-append own old extra
        ∙ ap (λ ss. ss ++ log_of shape extra) (left.finished.log old more.1 bank exists) in
        subst (λ (rs : List (Row n)). KeepsLogTo e shape now off (rules_in e raw bank) rs log) (sym table)
        (logs n m off e shape (pacing_in raw) xs now log (log_of shape extra) (sized raw bank is) lawful (left.finished.idle bank exists) leaves-now split
        (All-filter own (λ (t : Sense n m). t.pulses ≡ (left.before.line t.line).pulses) extra (pulses-shown left.before left.sensed)))

  right-now : RunsRightTo e raw seed off rows now ends
  right-now = record {
    size = was.size;
    serves = record {
      served = was.serves.served;
      banks = was.serves.banks;
      room = was.serves.room;
      places = λ bank few.
          let p = was.serves.places bank few in record { worn = p.worn; pulses = p.pulses; placed = p.placed; taken = p.taken };
      lines = λ bank few. let p = was.serves.lines bank few in record { pulses = p.pulses; ages = p.ages; controls = p.controls; control_ages = p.control_ages };
    };
    sensed = λ log told bank few. keeps-log bank few log told;
    end = was.end;
    unused = was.unused;
  }

  pub stays : RunsRightTo e raw seed off rows array ends
  stays = subst (λ a. RunsRightTo e raw seed off rows a ends) (sym (but-log left.sensed left.before array left.since)) right-now

pub stays_law : WholeLogLaw → LeavingLaw → BankTableLaw → (off : Bool) → StaysRightToLaw off
stays_law logs leaving by_bank off n m e raw seed rows array ends s left is was = stays logs leaving by_bank off e raw seed rows array ends s left is was
