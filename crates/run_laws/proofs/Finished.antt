-- A finished run is right, by the laws of its banks.
use Rattle.std.proofs.Common.{◌≡◌, ℕ, ◌+◌, ◌*◌, ◌/◌, ◌%◌, ◌<◌, ◌≤◌, Bool, List, [], map, Some, sym, ◌∙◌, subst, arith}
use Rattle.std.{specs.Prelude.All, proofs.Math.Nat.one-le-mul, proofs.lemmas.List.append-nil, proofs.lemmas.List.Elements.{All-nil, All-map}}
use Rattle.std.proofs.lemmas.Nat.{mod_below, div_below, div-add-mod'}
use Rattle.cell_rows.specs.{Device.ArrayState, declared.array.Sense.Sense}
use Rattle.result_rows.specs.declared.Outcome.{Outcome}
use Rattle.ecp_line.specs.{ArrayLines.{is_worn_at, decoded}, Untouched.{HasUntouched, AreUntouched}}
use Rattle.row_rules.specs.{Lines.IsOfLines, Table.KeepsRows, declared.Row.Row}
use Rattle.bank_shape.specs.{Shape.lines_in, declared.BankShape.BankShape}
use Rattle.bank_model.specs.{Adding.senses_of, Lawful.Lawful, Timing.TimedEvent}
use Rattle.clock_laws.specs.{Ending.{LeavingLaw, UntouchedLaw}, Leads.HasAged, State.ClockState}
use Rattle.bank_laws.specs.{Laws.{IsSized, LeavesArray}, Outcomes.table_of, Resting.IsStill, Whole.{WholeTableLaw, WholePlaceLaw, WholeLogLaw, WholeRoomLaw}}
use Rattle.bank_laws.proofs.Resting.{ends-still}
use Rattle.right_runs.specs.{Banks.{bank_of_line, line_in_bank, pacing_in, rules_in}, Ends.EndsWithTo, KeepsLines.KeepsLines, KeepsLog.KeepsLogTo, KeepsPlaces.KeepsPlacesTo}
use Rattle.right_runs.specs.{Runs.{ServesTo, RunsRightTo}, Tables.table_in}
use Rattle.module_shape.specs.{Addresses.{module_of, array_lines_of, bank_shape}, Limits.{IsShape, total_of}, declared.raw.RawShape.RawShape}
use Rattle.module_laws.specs.{Asking.{Asked, row_with}, Serves.{BankTableLaw, ServedByBanksLaw, RoomByBankLaw}}
use Rattle.end_laws.specs.EndLaws.{RemappedLaw, GapsLaw, KeptLaw, QueueLaw, StillThereLaw}
use Rattle.lifetime_laws.specs.Lifetime.{KeptLinesLaw}
use Rattle.run_laws.{specs.FinishedLaws.{EndedLaw, ends_of}, specs.Finishing.IsFinishedTo, proofs.Banks.{is_end, is_lawful, leaves, ends_right}, proofs.Mixing.lines_law}

-- the laws of a bank
pub record BankLaws : Type 0 where
  pub tables : WholeTableLaw
  pub places : WholePlaceLaw
  pub lines : KeptLinesLaw
  pub logs : WholeLogLaw
  pub room : WholeRoomLaw
  pub by_bank : BankTableLaw
  pub served : ServedByBanksLaw
  pub finds : RoomByBankLaw
  pub leaving : LeavingLaw
  pub unused : UntouchedLaw
  pub remapped : RemappedLaw
  pub gaps : GapsLaw
  pub kept : KeptLaw
  pub queue : QueueLaw
  pub still : StillThereLaw

-- each bank of a module has its sizes
pub sized : (raw : RawShape) (bank : ℕ) → IsShape raw → IsSized (bank_shape (module_of raw) bank) (pacing_in raw)
sized raw bank is = record {
  regions = is.some_regions;
  lines = omega (arith, is.some_lines);
  writes = is.some_writes;
  reads = is.some_reads;
  psi = is.some_psi;
  read = is.some_read_ticks;
  iter = is.some_iter_ticks;
}

-- and array lines
some_lines : (raw : RawShape) → IsShape raw → 0 < array_lines_of (module_of raw)
some_lines raw is =
    let slots : 1 ≤ raw.regions * (raw.lines + 1) = one-le-mul {a = raw.regions} {b = raw.lines + 1} is.some_regions (omega arith) in
    omega (arith, slots)

module _ {n m e : ℕ} (off : Bool) (laws : BankLaws) (raw : RawShape) (seed : ℕ) (h : ℕ → List (TimedEvent n m)) (trace : List (Asked n)) (banks : ℕ → ClockState n m e)
    (array : ArrayState n m) (outcome : ℕ → Outcome n) (is : IsShape raw) (done : IsFinishedTo raw seed off h trace banks array outcome) where
  abbrev rows : List (Row n)
  rows = map (row_with outcome) trace

  abbrev shape_of : ℕ → BankShape
  shape_of bank = bank_shape (module_of raw) bank

  -- of one bank
  module _ (bank : ℕ) (exists : bank < raw.banks) where
    lawful : Lawful (shape_of bank) (pacing_in raw) e (h bank)
    lawful = is_lawful (h bank) (banks bank) array (done.leads bank exists) (shape_of bank) (pacing_in raw) (done.shapes bank exists) (done.paces bank exists)

    left : LeavesArray e (shape_of bank) (h bank) array
    left = leaves (h bank) (banks bank) array (done.leads bank exists) (shape_of bank) (pacing_in raw) (done.shapes bank exists) (done.paces bank exists) laws.leaving

    aged : HasAged (shape_of bank) (h bank) (banks bank).regs array
    aged = subst (λ (s : BankShape). HasAged s (h bank) (banks bank).regs array) (done.shapes bank exists) (done.leads bank exists).aged

    -- its rows are the table of its history
    table : table_in raw seed bank rows ≡ table_of (shape_of bank) (h bank)
    table =
        laws.by_bank n m (shape_of bank) (bank_of_line raw seed) (line_in_bank raw seed) bank (h bank) trace outcome (done.asked bank exists)
        (done.recorded bank exists)

    still : IsStill (shape_of bank) (h bank)
    still = ends-still (shape_of bank) off (pacing_in raw) (h bank) (done.idle bank exists)

    keeps_rows : KeepsRows (rules_in e raw bank) (table_in raw seed bank rows)
    keeps_rows =
        subst (λ (rs : List (Row n)). KeepsRows (rules_in e raw bank) rs) (sym table)
        (laws.tables n m e (shape_of bank) (pacing_in raw) (h bank) (sized raw bank is) lawful still)

    keeps_places : KeepsPlacesTo e (shape_of bank) array off (rules_in e raw bank) (table_in raw seed bank rows)
    keeps_places =
        subst (λ (rs : List (Row n)). KeepsPlacesTo e (shape_of bank) array off (rules_in e raw bank) rs) (sym table)
        (laws.places n m off e (shape_of bank) (pacing_in raw) (h bank) array (sized raw bank is) lawful (done.idle bank exists) left)

    keeps_lines : KeepsLines (shape_of bank) array (rules_in e raw bank) (table_in raw seed bank rows)
    keeps_lines =
        subst (λ (rs : List (Row n)). KeepsLines (shape_of bank) array (rules_in e raw bank) rs) (sym table)
        (laws.lines n m e (shape_of bank) (pacing_in raw) (h bank) array (sized raw bank is) lawful still left aged.lines aged.controls)

    keeps_log : (log : List (Sense n m)) → array.log ≡ Some log → KeepsLogTo e (shape_of bank) array off (rules_in e raw bank) (table_in raw seed bank rows) log
    keeps_log log told =
        subst (λ (rs : List (Row n)). KeepsLogTo e (shape_of bank) array off (rules_in e raw bank) rs log) (sym table)
        (laws.logs n m off e (shape_of bank) (pacing_in raw) (h bank) array log [] (sized raw bank is) lawful (done.idle bank exists) left
        (done.log log told bank exists ∙ sym (append-nil (senses_of (h bank)))) (All-nil (λ (s : Sense n m). s.pulses ≡ (array.line s.line).pulses)))

    ends : EndsWithTo off (shape_of bank) (is_worn_at e array) (decoded e array) (table_in raw seed bank rows) (ends_of h banks bank)
    ends =
        subst (λ (rs : List (Row n)). EndsWithTo off (shape_of bank) (is_worn_at e array) (decoded e array) rs (ends_of h banks bank)) (sym table)
        (ends_right (h bank) (banks bank) array (done.leads bank exists) (shape_of bank) (pacing_in raw) (done.shapes bank exists) (done.paces bank exists)
        laws.leaving laws.remapped laws.gaps laws.kept laws.queue laws.still (sized raw bank is) off (done.idle bank exists))

    -- the unused check cells of its lines are untouched
    untouched : AreUntouched e array (shape_of bank).base (lines_in (shape_of bank))
    untouched =
        subst (λ (s : BankShape). AreUntouched e array s.base (lines_in s)) (done.shapes bank exists)
        (laws.unused n m e (h bank) (banks bank) array (done.leads bank exists))

  -- of the whole module
  exist : All (λ r. IsOfLines (total_of raw) r.asks) rows
  exist = All-map (λ (r : Row n). IsOfLines (total_of raw) r.asks) (row_with outcome) trace done.exist

  serves : ServesTo e raw seed off rows array
  serves = record {
    served =
        laws.served n raw.banks (total_of raw) (bank_of_line raw seed) (line_in_bank raw seed) rows (lines_law raw seed is) is.some_banks exist
        (λ bank few. (keeps_rows bank few).served);
    banks = keeps_rows;
    room = λ bank few.
        laws.finds n m e (shape_of bank) (pacing_in raw) (bank_of_line raw seed) (line_in_bank raw seed) bank (h bank) trace outcome (laws.room n m)
        (sized raw bank is) (lawful bank few) (still bank few) done.ticks (done.asked bank few) (done.recorded bank few);
    places = keeps_places;
    lines = keeps_lines;
  }

  -- and so are those of each array line, which is one of a bank
  unused : (line : ℕ) → line < array.lines → HasUntouched e (array.line line)
  unused line below =
      let each : ℕ = array_lines_of (module_of raw) in
      let within : line < raw.banks * each = omega (arith, below, done.size) in
      let some : 0 < each = some_lines raw is in
      let place : line / each * each + line % each ≡ line = div-add-mod' line each in
      subst (λ (at : ℕ). HasUntouched e (array.line at)) place
      (untouched (line / each) (div_below line each raw.banks some within) (line % each) (mod_below line each some))

  pub runs_right : RunsRightTo e raw seed off rows array (ends_of h banks)
  runs_right = record {
    size = done.size;
    serves = serves;
    sensed = λ log told bank few. keeps_log bank few log told;
    end = ends;
    unused = unused;
  }

pub ended_law : BankLaws → (off : Bool) → EndedLaw off
ended_law laws off n m e raw seed h trace banks array outcome is done = (
  runs_right off laws raw seed h trace banks array outcome is done,
  λ bank few. is_end (h bank) (banks bank) array (done.leads bank few),
)
