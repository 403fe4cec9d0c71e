-- A scripted array keeps what every array keeps.
use Rattle.std.proofs.Common.{◌≡◌, ℕ, ◌+◌, ◌<◌, ◌≤◌, Bool, true, false, cond, List, length, get_or, set, length-set, get_or-set_same, get_or-set_other, slice_index, refl, ◌∙◌, ap, inl, inr, arith, Option, Some, None}
use Rattle.std.{specs.Prelude.nat_lt, proofs.lemmas.List.get_or_default}
use Rattle.cell_rows.specs.{Device.{DeviceStep, TornStep, counted}, Rows.cell, declared.array.LineEnergy.LineEnergy, declared.row.Cells.Cells}
use Rattle.pcm_cells.specs.Cell.{line_state, cell_state}
use Rattle.pcm_cells.specs.Scripted.{scripted_bounds, act_at, acted, next_turn, ScriptedCell, ScriptedLine, ScriptedArray, Turns, blank_scripted, scripted, scripted_cell}
use Rattle.pcm_cells.specs.{Scripted.scripted_line, declared.script.Act.Act, declared.script.Act.TheVariants.{Miss, Stick}, declared.script.Script.Script}
use Rattle.pcm_cells.proofs.LineLemmas.{IsPulsed, IsTorn, device_step, torn_step}
use Rattle.seeded_lines.specs.{Follows.Follows, declared.cell.CellState.CellState}

missed_pulsed : (few want : Bool) (old new : CellState) → old.stuck ≡ false
    → new ≡ cond few (record old { misses = old.misses + 1 }) (record { value = want; stuck = false; misses = 0 }) → IsPulsed want 0 old new 0 0
missed_pulsed true want old new live is = inr (inl (ap (λ c. c.stuck) is ∙ live, ap (λ c. c.value) is, ap (λ c. c.misses) is, omega arith))
missed_pulsed false want old new live is = inl (ap (λ c. c.stuck) is, ap (λ c. c.value) is, ap (λ c. c.misses) is, omega arith)

-- a live cell in a pulse
acted_pulsed : (act : Option Act) (want : Bool) (old new : CellState) → old.stuck ≡ false → new ≡ acted false act want old → IsPulsed want 0 old new 0 0
acted_pulsed None want old new live is = inl (ap (λ c. c.stuck) is, ap (λ c. c.value) is, ap (λ c. c.misses) is, omega arith)
acted_pulsed (Some Miss) want old new live is = missed_pulsed (nat_lt old.misses 7) want old new live is
acted_pulsed (Some (Stick value)) want old new live is = inr (inr (ap (λ c. c.stuck) is, omega arith))

-- a cell in a tear
any_torn : (stuck : Bool) (new : CellState) → new.stuck ≡ stuck → IsTorn 0 new 0 0
any_torn true new is = inr (is, omega arith)
any_torn false new is = inl (is, omega arith)

-- an unmasked cell stays
unmasked_stays : {B M : ℕ} (mask want : Cells B M) (script : List Script) (line : ℕ) (tearing : Bool) (old new : ScriptedLine B M)
    → Follows (cell mask) (scripted script line tearing (cell want)) (scripted_cell old) (scripted_cell new)
    → (n : ℕ) → cell mask n ≡ false → cell_state (line_state new.line) n ≡ cell_state (line_state old.line) n
unmasked_stays mask want script line tearing old new follows n h =
    ap (λ c. c.state) (follows n ∙ ap (λ b. cond b (scripted script line tearing (cell want) n (scripted_cell old n)) (scripted_cell old n)) h)

-- where the rule keeps the state, a choice between it and the cell keeps it too
either_way : (b : Bool) (x y : ScriptedCell) → x.state ≡ y.state → (cond b x y).state ≡ y.state
either_way true x y e = e
either_way false x y e = refl

-- a stuck cell stays
stuck_stays : {B M : ℕ} (mask want : Cells B M) (script : List Script) (line : ℕ) (tearing : Bool) (old new : ScriptedLine B M)
    → Follows (cell mask) (scripted script line tearing (cell want)) (scripted_cell old) (scripted_cell new)
    → (n : ℕ) → (line_state old.line).stuck n ≡ true → cell_state (line_state new.line) n ≡ cell_state (line_state old.line) n
stuck_stays mask want script line tearing old new follows n h =
    ap (λ c. c.state) (follows n)
    ∙ either_way (cell mask n) (scripted script line tearing (cell want) n (scripted_cell old n)) (scripted_cell old n)
    (ap (λ b. cond b (cell_state (line_state old.line) n) (acted tearing (act_at script line n (next_turn (slice_index old.turns n))) (cell want n) (cell_state (line_state old.line) n))) h)

pub scripted_device_step : {B M : ℕ} (mask want : Cells B M) (script : List Script) (line : ℕ) (old new : ScriptedLine B M)
    → Follows (cell mask) (scripted script line false (cell want)) (scripted_cell old) (scripted_cell new)
    → ((n : ℕ) → slice_index new.line.misses n ≤ 7)
    → new.line.pulses ≡ counted old.line.pulses → DeviceStep scripted_bounds mask want (line_state old.line) (line_state new.line)
scripted_device_step mask want script line old new follows few pulses =
    device_step scripted_bounds mask want (line_state old.line) (line_state new.line) (omega arith)
    (unmasked_stays mask want script line false old new follows) (λ n h. refl) (stuck_stays mask want script line false old new follows)
    (λ n masked live.
    acted_pulsed (act_at script line n (next_turn (slice_index old.turns n))) (cell want n) (cell_state (line_state old.line) n) _ live
    (ap (λ c. c.state) (follows n ∙ ap (λ b. cond b (scripted script line false (cell want) n (scripted_cell old n)) (scripted_cell old n)) masked)
    ∙ ap (λ b. cond b (cell_state (line_state old.line) n) (acted false (act_at script line n (next_turn (slice_index old.turns n))) (cell want n) (cell_state (line_state old.line) n))) live))
    (λ n masked. record { misses = few n; endures = λ is. omega arith })
    pulses

pub scripted_torn_step : {B M : ℕ} (mask want : Cells B M) (script : List Script) (line : ℕ) (old new : ScriptedLine B M)
    → Follows (cell mask) (scripted script line true (cell want)) (scripted_cell old) (scripted_cell new)
    → ((n : ℕ) → slice_index new.line.misses n ≤ 7)
    → new.line.pulses ≡ counted old.line.pulses → TornStep scripted_bounds mask (line_state old.line) (line_state new.line)
scripted_torn_step mask want script line old new follows few pulses =
    torn_step scripted_bounds mask (line_state old.line) (line_state new.line) (omega arith)
    (unmasked_stays mask want script line true old new follows) (λ n h. refl) (stuck_stays mask want script line true old new follows)
    (λ n masked live. any_torn (cell new.line.stuck n) (cell_state (line_state new.line) n) refl)
    (λ n masked. record { misses = few n; endures = λ is. omega arith }) pulses

-- an array one of whose lines took its turn
pub line_turned : {B M : ℕ} (line : ℕ) (tearing : Bool) (mask want : Cells B M) (old : ScriptedArray B M) (was row : ScriptedLine B M)
    (energies : List (Option LineEnergy)) → line < length old.lines → was ≡ get_or old.lines line was
    → Follows (cell mask) (scripted old.script line tearing (cell want)) (scripted_cell was) (scripted_cell row)
    → row.line.pulses ≡ counted was.line.pulses
    → Turns line tearing mask want old (record old { lines = set old.lines line row; energies = energies })
line_turned {B} {M} line tearing mask want old was row energies within is follows pulses =
    let before : was ≡ scripted_line old line = is ∙ get_or_default old.lines line was (blank_scripted B M) within in
    let after : get_or (set old.lines line row) line (blank_scripted B M) ≡ row = get_or-set_same old.lines line row (blank_scripted B M) within in
    record {
      cells = λ n.
          ap (λ l. scripted_cell l n) after ∙ follows n
          ∙ ap (λ l. cond (cell mask n) (scripted old.script line tearing (cell want) n (scripted_cell l n)) (scripted_cell l n)) before;
      pulses = ap (λ l. l.line.pulses) after ∙ pulses ∙ ap (λ l. counted l.line.pulses) before;
      others = λ n apart. get_or-set_other old.lines line n row (blank_scripted B M) apart;
      lines = length-set old.lines line row;
      script = refl;
    }
