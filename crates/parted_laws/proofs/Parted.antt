-- Parts of a run that were served to their end are one right run, by the laws of its banks.
use Rattle.std.proofs.Common.{◌≡◌, ℕ, ◌+◌, ◌*◌, ◌/◌, ◌%◌, ◌<◌, ◌≤◌, Bool, List, [], None, sym, ◌∙◌, subst, arith}
use Rattle.std.{proofs.Math.Nat.one-le-mul}
use Rattle.std.proofs.lemmas.Nat.{mod_below, div_below, div-add-mod'}
use Rattle.cell_rows.specs.{Device.ArrayState}
use Rattle.ecp_line.specs.{ArrayLines.{is_worn_at, decoded}, Untouched.{HasUntouched, AreUntouched}}
use Rattle.row_rules.specs.{Table.KeepsRows, declared.Row.Row}
use Rattle.bank_shape.specs.{Shape.lines_in, declared.BankShape.BankShape}
use Rattle.bank_model.specs.{Lawful.Lawful, Timing.TimedEvent}
use Rattle.clock_laws.specs.{Extending.ElsewhereLaw, Leads.{HasAged, Leads}, State.ClockState}
use Rattle.bank_laws.specs.{Laws.LeavesArray, Outcomes.table_of, Resting.IsStill}
use Rattle.bank_laws.proofs.Resting.{ends-still}
use Rattle.right_runs.specs.{Banks.{bank_of_line, line_in_bank, pacing_in, rules_in}, Ends.EndsWithTo, KeepsLines.KeepsLines, KeepsPlaces.KeepsPlacesTo}
use Rattle.right_runs.specs.{Runs.{ServesTo, SensedTo, RunsRightTo}, Tables.{table_in}}
use Rattle.module_shape.specs.{Addresses.{module_of, array_lines_of, bank_shape}, Limits.{IsShape, total_of}, declared.raw.RawShape.RawShape}
use Rattle.module_laws.specs.{Asking.{Asked, AreAsked, asked_of}, Serves.AreRecorded}
use Rattle.run_laws.{specs.{Finishing.IsFinishedTo}, proofs.Banks.{is_end, is_lawful, leaves, ends_right}, proofs.Finished.{BankLaws, sized}}
use Rattle.run_laws.proofs.Mixing.{lines_law}
use Rattle.parted_laws.{specs.Parted.{Part, HasServedBank, IsParted, PartedLaw, ends_in}, proofs.Tables.{rooms, ticks_fall}}

-- a bank has array lines
some_lines : (raw : RawShape) → IsShape raw → 0 < array_lines_of (module_of raw)
some_lines raw is =
    let slots : 1 ≤ raw.regions * (raw.lines + 1) = one-le-mul {a = raw.regions} {b = raw.lines + 1} is.some_regions (omega arith) in
    omega (arith, slots)

module _ {n m e : ℕ} (off : Bool) (laws : BankLaws) (elsewhere : ElsewhereLaw) (raw : RawShape) (seed : ℕ) (parts : ℕ → Part n m e)
    (rows : List (Row n)) (array : ArrayState n m) (is : IsShape raw) (parted : IsParted raw seed off parts rows array) where
  abbrev shape_of : ℕ → BankShape
  shape_of bank = bank_shape (module_of raw) bank

  -- of one bank
  module _ (bank : ℕ) (few : bank < raw.banks) where
    abbrev part : Part n m e
    part = parts bank

    abbrev xs : List (TimedEvent n m)
    xs = part.histories bank

    abbrev clock : ClockState n m e
    clock = part.banks bank

    done : IsFinishedTo raw seed off part.histories part.trace part.banks part.array part.outcome
    done = parted.served bank few

    had : HasServedBank raw seed bank part rows
    had = parted.banks bank few

    shaped : clock.bank.kept.shape ≡ shape_of bank
    shaped = done.shapes bank few

    paced : clock.pace ≡ pacing_in raw
    paced = done.paces bank few

    -- its history leads to it over the array that is put together, too
    pub leads : Leads xs clock array
    leads =
        elsewhere n m e xs clock part.array array (done.leads bank few) (parted.joined.size ∙ sym done.size) (parted.joined.bounds bank few)
        (subst (λ (s : BankShape). (line : ℕ) → s.base ≤ line → line < s.base + lines_in s → array.line line ≡ part.array.line line) (sym shaped)
        (λ line from to. parted.joined.own bank line few from to))

    lawful : Lawful (shape_of bank) (pacing_in raw) e xs
    lawful = is_lawful xs clock array leads (shape_of bank) (pacing_in raw) shaped paced

    left : LeavesArray e (shape_of bank) xs array
    left = leaves xs clock array leads (shape_of bank) (pacing_in raw) shaped paced laws.leaving

    aged : HasAged (shape_of bank) xs clock.regs array
    aged = subst (λ (s : BankShape). HasAged s xs clock.regs array) shaped leads.aged

    asked : AreAsked xs (asked_of (bank_of_line raw seed) (line_in_bank raw seed) bank had.numbered)
    asked = subst (λ (came : List (Asked n)). AreAsked xs came) (sym had.came) (done.asked bank few)

    recorded : AreRecorded (shape_of bank) xs part.outcome (asked_of (bank_of_line raw seed) (line_in_bank raw seed) bank had.numbered)
    recorded = subst (λ (came : List (Asked n)). AreRecorded (shape_of bank) xs part.outcome came) (sym had.came) (done.recorded bank few)

    -- its rows are the table of its history
    table : table_in raw seed bank rows ≡ table_of (shape_of bank) xs
    table =
        had.outcomes
        ∙ laws.by_bank n m (shape_of bank) (bank_of_line raw seed) (line_in_bank raw seed) bank xs had.numbered part.outcome asked recorded

    still : IsStill (shape_of bank) xs
    still = ends-still (shape_of bank) off (pacing_in raw) xs (done.idle bank few)

    keeps_rows : KeepsRows (rules_in e raw bank) (table_in raw seed bank rows)
    keeps_rows =
        subst (λ (rs : List (Row n)). KeepsRows (rules_in e raw bank) rs) (sym table)
        (laws.tables n m e (shape_of bank) (pacing_in raw) xs (sized raw bank is) lawful still)

    keeps_places : KeepsPlacesTo e (shape_of bank) array off (rules_in e raw bank) (table_in raw seed bank rows)
    keeps_places =
        subst (λ (rs : List (Row n)). KeepsPlacesTo e (shape_of bank) array off (rules_in e raw bank) rs) (sym table)
        (laws.places n m off e (shape_of bank) (pacing_in raw) xs array (sized raw bank is) lawful (done.idle bank few) left)

    keeps_lines : KeepsLines (shape_of bank) array (rules_in e raw bank) (table_in raw seed bank rows)
    keeps_lines =
        subst (λ (rs : List (Row n)). KeepsLines (shape_of bank) array (rules_in e raw bank) rs) (sym table)
        (laws.lines n m e (shape_of bank) (pacing_in raw) xs array (sized raw bank is) lawful still left aged.lines aged.controls)

    ends : EndsWithTo off (shape_of bank) (is_worn_at e array) (decoded e array) (table_in raw seed bank rows) (ends_in parts bank)
    ends =
        subst (λ (rs : List (Row n)). EndsWithTo off (shape_of bank) (is_worn_at e array) (decoded e array) rs (ends_in parts bank)) (sym table)
        (ends_right xs clock array leads (shape_of bank) (pacing_in raw) shaped paced laws.leaving laws.remapped laws.gaps laws.kept laws.queue laws.still
        (sized raw bank is) off (done.idle bank few))

    -- the unused check cells of its lines are untouched
    untouched : AreUntouched e array (shape_of bank).base (lines_in (shape_of bank))
    untouched = subst (λ (s : BankShape). AreUntouched e array s.base (lines_in s)) shaped (laws.unused n m e xs clock array leads)

  -- of the whole module
  serves : ServesTo e raw seed off rows array
  serves = record {
    served =
        laws.served n raw.banks (total_of raw) (bank_of_line raw seed) (line_in_bank raw seed) rows (lines_law raw seed is) is.some_banks parted.exist
        (λ bank few. (keeps_rows bank few).served);
    banks = keeps_rows;
    room = λ bank few.
        let own = had bank few in
        rooms (bank_of_line raw seed) (line_in_bank raw seed) bank (parts bank).outcome (rules_in e raw bank) own.numbered rows [] [] own.rows_of own.outcomes
        (laws.finds n m e (shape_of bank) (pacing_in raw) (bank_of_line raw seed) (line_in_bank raw seed) bank (xs bank few) own.numbered (parts bank).outcome
        (laws.room n m) (sized raw bank is) (lawful bank few) (still bank few) (ticks_fall own.numbered rows own.rows_of parted.ticks) (asked bank few)
        (recorded bank few));
    places = keeps_places;
    lines = keeps_lines;
  }

  -- the array tells no log
  senses : SensedTo e raw seed off rows array
  senses log told bank few = let silent : array.log ≡ None = parted.joined.silent in absurd (cc)

  -- and so are those of each array line, which is one of a bank
  unused : (line : ℕ) → line < array.lines → HasUntouched e (array.line line)
  unused line below =
      let each : ℕ = array_lines_of (module_of raw) in
      let within : line < raw.banks * each = omega (arith, below, parted.joined.size) in
      let some : 0 < each = some_lines raw is in
      let place : line / each * each + line % each ≡ line = div-add-mod' line each in
      subst (λ (at : ℕ). HasUntouched e (array.line at)) place
      (untouched (line / each) (div_below line each raw.banks some within) (line % each) (mod_below line each some))

  pub runs_right : RunsRightTo e raw seed off rows array (ends_in parts)
  runs_right = record {
    size = parted.joined.size;
    serves = serves;
    sensed = senses;
    end = ends;
    unused = unused;
  }

pub parted_law : BankLaws → ElsewhereLaw → PartedLaw
parted_law laws elsewhere n m e raw seed off parts rows array is parted = (
  runs_right off laws elsewhere raw seed parts rows array is parted,
  λ bank few. is_end ((parts bank).histories bank) ((parts bank).banks bank) array (leads off laws elsewhere raw seed parts rows array is parted bank few),
)
