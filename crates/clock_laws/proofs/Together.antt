-- What the calls of one step touch together, and what the bank and the control lines are to each other's lines.
use Rattle.std.proofs.Common.{◌≡◌, ◌&&◌, not, is_some, ℕ, ◌+◌, Bool, true, false, cond, Option, Some, None, List, [], ◌∷◌, ◌++◌, refl, sym, ap, subst, ◌∙◌, arith, append-nil}
use Rattle.std.proofs.lemmas.Bool.{ne_eqb}
use Rattle.cell_rows.specs.{Device.{CellBounds, ArrayState, LineState, counted, sense_of}, declared.array.Sense.Sense}
use Rattle.bank_shape.specs.Shape.{control_line}
use Rattle.bank_model.specs.{Timing.core, Touching.{Sticks, Touches, shown}}
use Rattle.bank_invariant.{specs.State.target_of, proofs.Tearing.running_of}
use Rattle.reg_lines.specs.declared.Change.{Change}
use Rattle.reg_lines.specs.Keeping as writing
use Rattle.clock_laws.{specs.Actions.{torn_line, CutTouchesLaw}, specs.Extending.{BeforeLaw, BehindLaw, ControlsStayLaw, BankStaysLaw}, proofs.Elsewhere.holds-same}
use Rattle.clock_laws.proofs.Ranges.{IsSlotOrSpare, target-in}

-- senses of lines that are the same show the same
shown-same : {n m : ℕ} (tick : ℕ) (sensed : List ℕ) (old new : ArrayState n m) → ((line : ℕ) → new.line line ≡ old.line line) → shown tick sensed old ≡ shown tick sensed new
shown-same tick [] old new same = refl
shown-same tick (line ∷ sensed) old new same =
    ap (λ l. sense_of line tick l ∷ shown tick sensed old) (sym (same line)) ∙ ap (λ senses. sense_of line tick (new.line line) ∷ senses) (shown-same tick sensed old new same)

pub before_law : BeforeLaw
before_law n m tick sensed pulsed tearing old between new first second = record {
  lines = second.lines ∙ first.lines;
  others = λ line off. second.others line off ∙ first.others line refl;
  pulses = λ line is. second.pulses line is ∙ ap (λ (l : LineState n m). counted l.pulses) (first.others line refl);
  sticks = λ line is.
      subst (λ (bounds : CellBounds). Sticks bounds (old.line line) (new.line line)) first.bounds
      (subst (λ (l : LineState n m). Sticks between.bounds l (new.line line)) (first.others line refl) (second.sticks line is));
  tears = second.tears ∙ ap (λ tears. cond tearing (counted tears) tears) first.tears;
  wear = second.wear ∙ first.wear;
  bounds = second.bounds ∙ first.bounds;
  log = λ after told.
      let late = second.log after told in
      let early = first.log late.0 late.1 in (
        early.0,
        early.1,
        late.2 ∙ ap (λ (log : List (Sense n m)). log ++ shown tick sensed new) (early.2 ∙ append-nil early.0),
      );
}

pub behind_law : BehindLaw
behind_law n m tick sensed pulsed tearing old between new first second = record {
  lines = second.lines ∙ first.lines;
  others = λ line off. second.others line refl ∙ first.others line off;
  pulses = λ line is. ap (λ (l : LineState n m). l.pulses) (second.others line refl) ∙ first.pulses line is;
  sticks = λ line is. subst (λ (l : LineState n m). Sticks old.bounds (old.line line) l) (sym (second.others line refl)) (first.sticks line is);
  tears = second.tears ∙ first.tears;
  wear = second.wear ∙ first.wear;
  bounds = second.bounds ∙ first.bounds;
  log = λ after told.
      let late = second.log after told in
      let early = first.log late.0 late.1 in (
        early.0,
        early.1,
        late.2 ∙ ap (λ (log : List (Sense n m)). log ++ shown tick sensed new) (early.2 ∙ append-nil early.0),
      );
}

pub controls_stay_law : ControlsStayLaw
controls_stay_law n m e tick item sensed tearing op xs clock old new leads is below touches =
    let run = running_of (core xs) clock.bank old op leads.holds is in
    let own : IsSlotOrSpare clock.bank.kept.shape op.target =
    subst (λ (line : ℕ). IsSlotOrSpare clock.bank.kept.shape line) (sym (run.target ∙ ap (λ work. target_of clock.bank.kept work) run.next)) (target-in clock.bank.kept leads.holds.kept) in
    touches.others (clock.regs.base + item) (ne_eqb op.target (clock.regs.base + item) (λ same. omega (arith, own.1, same, leads.control.own.base)))

pub bank_stays_law : BankStaysLaw
bank_stays_law n m e tick item sensed tearing h bank old new holds touches =
    holds-same h bank old new holds touches.lines touches.bounds
    (λ line own. touches.others line (ne_eqb (control_line bank.kept.shape item) line (λ same. omega (arith, own.1, same))))

-- The calls of a power cut

pub cut_touches_law : CutTouchesLaw
cut_touches_law n m e tick tearing controls regs running old between later new bank change senses = by tearing regs.change refl bank change
  where
    by : (tearing : Bool) (stands : Option Change) → regs.change ≡ stands
        → Touches tick [] (torn_line (tearing && not (is_some stands)) regs None running) (tearing && not (is_some stands)) old between
        → Touches tick [] (writing.torn_line (tearing && is_some stands) regs) (tearing && is_some stands) between later
        → Touches tick controls (torn_line tearing regs stands running) tearing old new
    by true None is bank change =
        behind_law n m tick controls (torn_line true regs None running) true old later new (behind_law n m tick [] (torn_line true regs None running) true old between later bank change) senses
    by true (Some one) is bank change =
        behind_law n m tick controls (Some (regs.base + one.item)) true old later new
        (before_law n m tick [] (Some (regs.base + one.item)) true old between later bank
        (subst (λ (stands : Option Change). Touches tick [] (writing.target_of regs stands) true between later) is change)) senses
    by false None is bank change = behind_law n m tick controls None false old later new (behind_law n m tick [] None false old between later bank change) senses
    by false (Some one) is bank change = behind_law n m tick controls None false old later new (behind_law n m tick [] None false old between later bank change) senses
