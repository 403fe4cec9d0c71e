-- From one phase to the next.
use Rattle.std.proofs.Common.{◌≡◌, ℕ, ◌&&◌, Bool, false, not, List, refl, sym, ap, ◌∙◌, subst, inl, inr, arith}
use Rattle.std.proofs.lemmas.Bool.{and_parts, cases_Bool, eqb-true, true≢false}
use Rattle.cell_rows.specs.{Device.LineState, Rows.{cell, bit_of, xor}, declared.row.Cells.Cells}
use Rattle.program_verify.specs.{Programming.{Programs, IsGoing, IsStatus, IsStuckWhereWrong, is_wrong}, declared.prog.Prog.Prog, declared.prog.Turn.Turn}
use Rattle.program_verify.specs.declared.prog.Turn.TheVariants.{Going, Settled}
use Rattle.ecp_line.specs.Layout.{active, source_below, decoded, switch_cell, IsLowest}
use Rattle.line_writer.specs.{Phases.{IsClearing, IsFilling, IsPointing, IsSwitching, IsSwitched}, Writing.{IsInPhase, IsAfterRound, IsSettled, IsWriting, HasRound, IsDone}}
use Rattle.line_writer.specs.{declared.writer.LineWriter.LineWriter, declared.writer.Phase.Phase, declared.writer.Phase.TheVariants.{Clear, Fill, Point, Switch}}

-- what is wrong by what the line holds
pub wrong-held : {B M : ℕ} (prog : Prog B M) (line : LineState B M) → Programs prog line → (n : ℕ) → (cell prog.which n && xor (cell line.held n) (cell prog.want n)) ≡ is_wrong prog n
wrong-held {B} {M} prog line programs n = ap (λ (h : Cells B M). cell prog.which n && xor (cell h n) (cell prog.want n)) programs.seen

-- a switch cell that is still to be pulsed is 0
switch-going : {B M : ℕ} (E w : ℕ) (prog : Prog B M) (line : LineState B M) → Programs prog line → IsSwitched B M E w (cell prog.want) (cell prog.which) (cell line.held) line.stuck
    → IsGoing prog → IsSwitching B M E w (cell prog.want) (cell prog.which) (cell line.held) line.stuck
switch-going {B} {M} E w prog line programs phase going =
    let (n, room, h) = going.wrong in
    let (on, differs) = and_parts (cell prog.which n) _ (wrong-held prog line programs n ∙ h) in
    let at : n ≡ switch_cell B E w = eqb-true n (switch_cell B E w) (sym (phase.cells n) ∙ on) in
    phase.off (elim (cases_Bool (cell line.held (switch_cell B E w))) as (λ _. cell line.held (switch_cell B E w) ≡ false) [
      | inl one ↦ absurd (true≢false (sym differs ∙ ap (λ (b : Bool). xor b (cell prog.want n)) (ap (cell line.held) at ∙ one) ∙ ap (λ (k : ℕ). not (cell prog.want k)) at ∙ ap not phase.one))
      | inr zero ↦ zero
    ])

phase-going : {B M : ℕ} (E w : ℕ) (bytes : List ℕ) (phase : Phase) (prog : Prog B M) (line : LineState B M) → Programs prog line → IsGoing prog
    → IsAfterRound E w bytes phase prog (cell line.held) line.stuck → IsInPhase E w bytes phase prog (cell line.held) line.stuck
phase-going E w bytes Switch prog line programs going h = switch-going E w prog line programs h going
phase-going E w bytes _ prog line programs going h = h

-- a phase that has a round left goes on
pub writing-going : {B M E : ℕ} (writer : LineWriter B M E) (line : LineState B M) → HasRound writer line → IsGoing writer.prog → IsWriting writer line
writing-going {E = E} writer line h going = record {
  prog = h.prog;
  most = h.most;
  charged = h.charged;
  phase = phase-going E writer.entries writer.bytes writer.phase writer.prog line h.prog going h.phase;
}

pub going-on : {B M E : ℕ} (writer : LineWriter B M E) (line : LineState B M) (turn : Turn B M) → ((wrong : Cells B M) → turn ≡ Settled wrong → ⊥)
    → HasRound writer line → IsStatus writer.prog turn → IsWriting writer line × IsGoing writer.prog
going-on writer line Going no_wrong h status = (writing-going writer line h status, status)
going-on writer line (Settled wrong) no_wrong h status = absurd (no_wrong wrong refl)

-- a phase that has none is done
pub done : {B M E : ℕ} (writer : LineWriter B M E) (line : LineState B M) (turn : Turn B M) (wrong : Cells B M) → turn ≡ Settled wrong
    → HasRound writer line → IsStatus writer.prog turn → IsStuckWhereWrong line turn → IsDone writer line × ((n : ℕ) → cell wrong n ≡ is_wrong writer.prog n)
done {B} {M} writer line turn wrong e h =
    subst (λ (t : Turn B M). IsStatus writer.prog t → IsStuckWhereWrong line t → IsDone writer line × ((n : ℕ) → cell wrong n ≡ is_wrong writer.prog n)) (sym e)
    (λ status left. (record { round = h; settled = status.1; stuck = λ n q. left n (status.0 n ∙ q) }, status.0))

-- with no round made, a phase is done only where nothing is wrong
pub none-wrong : {B M : ℕ} (prog : Prog B M) → prog.rounds ≡ 0 → IsSettled prog → (n : ℕ) → is_wrong prog n ≡ false
none-wrong prog zero (inl eight) n = absurd (omega arith)
none-wrong prog zero (inr none) n = none n

-- the phase by its name
pub clear-phase : {B M E : ℕ} (writer : LineWriter B M E) (line : LineState B M) → writer.phase ≡ Clear → HasRound writer line
    → IsClearing B E writer.entries (cell writer.prog.want) (cell writer.prog.which) (cell line.held)
clear-phase {E = E} writer line e h = subst (λ (p : Phase). IsAfterRound E writer.entries writer.bytes p writer.prog (cell line.held) line.stuck) e h.phase

pub fill-phase : {B M E : ℕ} (writer : LineWriter B M E) (line : LineState B M) → writer.phase ≡ Fill → HasRound writer line
    → IsFilling B E writer.entries writer.bytes (cell writer.prog.want) (cell writer.prog.which) (cell line.held)
fill-phase {E = E} writer line e h = subst (λ (p : Phase). IsAfterRound E writer.entries writer.bytes p writer.prog (cell line.held) line.stuck) e h.phase

pub point-phase : {B M E : ℕ} (writer : LineWriter B M E) (line : LineState B M) → writer.phase ≡ Point → HasRound writer line
    → IsPointing B E writer.entries writer.bytes (cell writer.prog.want) (cell writer.prog.which) (cell line.held) line.stuck
point-phase {E = E} writer line e h = subst (λ (p : Phase). IsAfterRound E writer.entries writer.bytes p writer.prog (cell line.held) line.stuck) e h.phase

-- a phase other than the last is as it was before its rounds
pub writing-clear : {B M E : ℕ} (writer : LineWriter B M E) (line : LineState B M) → writer.phase ≡ Clear → HasRound writer line → IsWriting writer line
writing-clear {E = E} writer line e h = record {
  prog = h.prog;
  most = h.most;
  charged = h.charged;
  phase = subst (λ (p : Phase). IsInPhase E writer.entries writer.bytes p writer.prog (cell line.held) line.stuck) (sym e) (clear-phase writer line e h);
}

pub writing-fill : {B M E : ℕ} (writer : LineWriter B M E) (line : LineState B M) → writer.phase ≡ Fill → HasRound writer line → IsWriting writer line
writing-fill {E = E} writer line e h = record {
  prog = h.prog;
  most = h.most;
  charged = h.charged;
  phase = subst (λ (p : Phase). IsInPhase E writer.entries writer.bytes p writer.prog (cell line.held) line.stuck) (sym e) (fill-phase writer line e h);
}

-- the lowest wrong bit, by what the line holds and the entries that count
pub lowest-held : {B M : ℕ} (E w : ℕ) (bytes : List ℕ) (held seen : Cells B M) (x : ℕ) → held ≡ seen → active B E (cell held) ≡ w
    → IsLowest (λ y. xor (decoded B E (cell seen) y) (bit_of bytes y)) x → IsLowest (λ y. xor (cell held (source_below B (cell held) y w)) (bit_of bytes y)) x
lowest-held {B} {M} E w bytes held seen x e count low =
    subst (λ (k : ℕ). IsLowest (λ y. xor (cell held (source_below B (cell held) y k)) (bit_of bytes y)) x) count
    (subst (λ (h : Cells B M). IsLowest (λ y. xor (decoded B E (cell h) y) (bit_of bytes y)) x) (sym e) low)
