-- Which banks tell outcomes, and in which order.
use Rattle.std.proofs.Common.{◌≡◌, ℕ, suc, ◌+◌, ◌==◌, Bool, false, List, Some, refl, sym, ap, subst, ◌∙◌, arith}
use Rattle.std.{specs.Prelude.slice_get, proofs.lemmas.Bool.eqb-false}
use Rattle.masked_bytes.{specs.Entries.has_row, proofs.Truth.{neither_first, neither_second}}
use Rattle.cell_rows.specs.Device.{ArrayState}
use Rattle.result_rows.specs.{Table.{HasRow, with_outcome}, declared.Outcome.Outcome}
use Rattle.bank_model.specs.Timing.{TimedEvent}
use Rattle.clock_laws.specs.{Leads.Leads, Standing.has_waiting, State.ClockState}
use Rattle.module_laws.specs.Asking.{Asked}
use Rattle.bank_timing.{specs.Extending.{LeavesOthers, LeavesOthersThan, outcome_in}, specs.Telling.{IsKnownAt, TellsInTurn}, proofs.Telling.{at-most, behind, set-told, up-none}}
use Rattle.right_runs.specs.Banks.{bank_of_line}
use Rattle.pcm_module.{specs.State.ModuleState, specs.Stepping.IsStep, specs.Telling.{TellsOf, TellsByBanks, has_standing, rows_at, rows_taking}, proofs.AsIf.other_there}
use Rattle.pcm_module.proofs.{Moving.left_alone, TakenRows.bank_there}

-- a step that tells a bank's rows, whatever row arrives with it, leaves the others
pub step_leaves : {n m e : ℕ} (xs : List (TimedEvent n m)) (clock next : ClockState n m e) (before after : ArrayState n m) (results recorded : List (Outcome n)) (a : ℕ → Asked n)
    → ((row : ℕ) → (a row).row ≡ row) → Leads xs clock before
    → ((row : ℕ) → (added : List (TimedEvent n m)) × IsStep xs added (a row) clock next before after results recorded) → LeavesOthers clock.bank results recorded
step_leaves xs clock next before after results recorded a own leads step = λ row has queued waiting.
    let s = step (row + 1) in
    left_alone xs clock before leads s.0 next after results recorded s.1.extends row has queued waiting (s.1.alone row (λ e. absurd (omega (arith, e, own (row + 1)))))

-- a step with which a row arrives leaves the others but that
pub step_leaves_but : {n m e : ℕ} (xs added : List (TimedEvent n m)) (clock next : ClockState n m e) (before after : ArrayState n m) (results recorded : List (Outcome n)) (a : Asked n)
    → Leads xs clock before → IsStep xs added a clock next before after results recorded → LeavesOthersThan a.row clock.bank results recorded
step_leaves_but xs added clock next before after results recorded a leads s = λ row has off queued waiting.
    left_alone xs clock before leads added next after results recorded s.extends row has queued waiting (s.alone row off)

module _ {n m e : ℕ} {R : Type 0} (goes_on : R → R → Type 0) (table : R → List (Outcome n)) (old : ModuleState n m e) where
  -- what the next bank tells is behind what those before it told
  pub next_bank : (ends : Bool) (rows : ℕ → ℕ → Bool) (bank next : ℕ) (first one two : R) → next ≡ bank + 1 → TellsByBanks goes_on table ends rows bank first one
      → TellsOf goes_on table ends (rows bank) one two → TellsByBanks goes_on table ends rows next first two
  next_bank ends rows bank next first one two is so_far tells = let e : next ≡ suc bank = omega (arith, is) in rw e (one, so_far, tells)

  -- a bank that leaves other rows tells of its own
  pub of_bank : (ends : Bool) (bank : ℕ) (clock : ClockState n m e) (one two : R) → slice_get old.banks bank ≡ Some clock → goes_on one two → LeavesOthers clock.bank (table one) (table two)
      → TellsInTurn goes_on table ends one two → TellsOf goes_on table ends (rows_at old bank) one two
  of_bank ends bank clock one two is on leaves in_turn = record {
    on = on;
    in_turn = in_turn;
    others = λ row has none.
        let off : has_standing clock.bank row ≡ false = subst (λ (c : ClockState n m e). has_standing c.bank row ≡ false) (bank_there old bank clock is) none in
        leaves row has (neither_first (has_row clock.bank.kept.entries row) (has_waiting clock.bank.waiting row) off) (neither_second (has_row clock.bank.kept.entries row) (has_waiting clock.bank.waiting row) off);
  }

  -- so does the bank of a line to which a row comes, and of that row
  pub of_taking : (bank row line : ℕ) (clock : ClockState n m e) (one two : R) → slice_get old.banks bank ≡ Some clock → bank ≡ bank_of_line old.shape old.seed line
      → goes_on one two → LeavesOthersThan row clock.bank (table one) (table two) → TellsInTurn goes_on table false one two → TellsOf goes_on table false (rows_taking old row line) one two
  of_taking bank row line clock one two is home on leaves in_turn = record {
    on = on;
    in_turn = in_turn;
    others = λ other has none.
        let stood : rows_at old (bank_of_line old.shape old.seed line) other ≡ false = neither_first (rows_at old (bank_of_line old.shape old.seed line) other) (row == other) none in
        let apart : (row == other) ≡ false = neither_second (rows_at old (bank_of_line old.shape old.seed line) other) (row == other) none in
        let there : rows_at old bank other ≡ false = subst (λ (k : ℕ). rows_at old k other ≡ false) (sym home) stood in
        let off : has_standing clock.bank other ≡ false = subst (λ (c : ClockState n m e). has_standing c.bank other ≡ false) (bank_there old bank clock is) there in
        leaves other has (λ same. eqb-false row other apart (sym same))
        (neither_first (has_row clock.bank.kept.entries other) (has_waiting clock.bank.waiting other) off) (neither_second (has_row clock.bank.kept.entries other) (has_waiting clock.bank.waiting other) off);
  }

-- a row that is told alone is told behind
pub tells_own : {n : ℕ} {R : Type 0} (goes_on : R → R → Type 0) (table : R → List (Outcome n)) (row tick : ℕ) (o : Outcome n) (one two : R) → HasRow (table one) row
    → table two ≡ with_outcome (table one) row o → IsKnownAt tick o → goes_on one two → TellsOf goes_on table false (λ other. row == other) one two
tells_own goes_on table row tick o one two there set known on = record {
  on = on;
  in_turn = behind goes_on table tick tick one one two (at-most tick tick refl) (up-none goes_on table tick one) (set-told goes_on table tick row o one two there set known on);
  others = λ other has none. ap (λ r. outcome_in r other) set ∙ other_there row o (table one) other there.above has.above (λ same. eqb-false row other none (sym same));
}
