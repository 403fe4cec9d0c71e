-- A settled bank keeps the laws of banks.
use Rattle.std.proofs.Common.{◌≡◌, ℕ, ◌≤◌, false, List, None}
use Rattle.cell_rows.specs.Device.{ArrayState}
use Rattle.bank_model.specs.Timing.{TimedEvent}
use Rattle.bank_laws.{specs.Laws.{TableLaw, PlaceLaw, LogLaw, IsSized}, proofs.Resting.idle-still}
use Rattle.tick_laws.specs.TickLaws.{FewCancelsLaw}
use Rattle.clock_laws.{specs.Leads.Leads, specs.State.{ClockState, next_action}, proofs.Leaving.leaving_law, proofs.Passing.idle_law}
use Rattle.bank_timing.specs.Laws.{KeepsLaws}

pub keeps-laws : (n m e : ℕ) → TableLaw n m → PlaceLaw n m → LogLaw n m → FewCancelsLaw
    → (xs : List (TimedEvent n m)) (clock : ClockState n m e) (array : ArrayState n m) → 1 ≤ clock.pace.read → 1 ≤ clock.pace.iter
    → Leads xs clock array → next_action clock ≡ None → KeepsLaws e clock.bank.kept.shape clock.pace xs array
keeps-laws n m e table place log few xs clock array read iter leads rests =
    let shape = clock.bank.kept.shape in
    let idle = idle_law n m e xs clock array leads rests in
    let leaves = leaving_law n m e xs clock array leads in
    let range = leads.holds.kept.shape in
    let sized : IsSized clock.bank.kept.shape clock.pace =
    record { regions = range.some_regions; lines = range.some_lines; writes = range.some_writes; reads = range.some_reads; psi = range.some_psi; read = read; iter = iter } in
    record {
      rows = table e shape clock.pace xs sized leads.lawful (idle-still shape clock.pace xs idle);
      places = place false e shape clock.pace xs array sized leads.lawful idle leaves;
      log = λ senses extra told late. log false e shape clock.pace xs array senses extra sized leads.lawful idle leaves told late;
      few_cancels = few n m e shape clock.pace xs sized leads.lawful (idle-still shape clock.pace xs idle);
    }
