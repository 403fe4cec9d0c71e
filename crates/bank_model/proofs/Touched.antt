-- What senses, a pulse or a tear of one line do to an array.
use Rattle.std.proofs.Common.{◌≡◌, ℕ, refl, sym, ap, subst, ◌∙◌, true, false, List, [], ◌∷◌, ◌++◌, append_assoc, Some, None}
use Rattle.std.proofs.{lemmas.Bool.{eqb-true, eqb-false}, lemmas.List.append-nil}
use Rattle.cell_rows.specs.{Device.{ArrayState, LineState, Senses, counted, sense_of}, declared.array.Sense.Sense}
use Rattle.program_verify.specs.{Programming.{IsRound, IsTear}, declared.prog.Prog.Prog}
use Rattle.bank_model.{specs.Touching.{Sticks, Touches, shown}, proofs.Sticking.{sticks-pulsed, sticks-torn}}

module _ {n m : ℕ} where
  -- nothing
  pub touches-nothing : (tick : ℕ) (old new : ArrayState n m) → new ≡ old → Touches tick [] None false old new
  touches-nothing tick old new same =
      subst (λ (a : ArrayState n m). Touches tick [] None false old a) (sym same)
      (record { lines = refl; others = λ at off. refl; pulses = λ at on. cc; sticks = λ at on. cc; tears = refl; log = λ after is. (after, is, sym (append-nil after)); wear = refl; bounds = refl })

  -- one sense
  pub touches-sense : (tick line : ℕ) (old new : ArrayState n m) → Senses (sense_of line tick (old.line line)) old new → Touches tick (line ∷ []) None false old new
  touches-sense tick line old new sense = record {
    lines = sense.lines;
    others = λ at off. sense.line at;
    pulses = λ at on. cc;
    sticks = λ at on. cc;
    tears = sense.tears;
    wear = sense.wear;
    bounds = sense.bounds;
    log = λ after is.
        let was = sense.log after is in
        (was.0, was.1, was.2 ∙ ap (λ (l : LineState n m). was.0 ++ sense_of line tick l ∷ []) (sym (sense.line line)));
  }

  -- what lines show that stay as they are
  shown-both : (tick : ℕ) (xs ys : List ℕ) (mid new : ArrayState n m) → ((line : ℕ) → new.line line ≡ mid.line line)
      → shown tick xs mid ++ shown tick ys new ≡ shown tick (xs ++ ys) new
  shown-both tick [] ys mid new same = refl
  shown-both tick (x ∷ xs) ys mid new same =
      ap (λ (l : LineState n m). sense_of x tick l ∷ (shown tick xs mid ++ shown tick ys new)) (sym (same x))
      ∙ ap (λ (s : List (Sense n m)). sense_of x tick (new.line x) ∷ s) (shown-both tick xs ys mid new same)

  -- senses after senses
  pub touches-both : (tick : ℕ) (xs ys : List ℕ) (old mid new : ArrayState n m) → Touches tick xs None false old mid
      → Touches tick ys None false mid new → Touches tick (xs ++ ys) None false old new
  touches-both tick xs ys old mid new first second = record {
    lines = second.lines ∙ first.lines;
    others = λ at off. second.others at refl ∙ first.others at refl;
    pulses = λ at on. cc;
    sticks = λ at on. cc;
    tears = second.tears ∙ first.tears;
    wear = second.wear ∙ first.wear;
    bounds = second.bounds ∙ first.bounds;
    log = λ after is.
        let late = second.log after is in
        let early = first.log late.0 late.1 in (
          early.0,
          early.1,
          late.2
              ∙ ap (λ (s : List (Sense n m)). s ++ shown tick ys new) early.2
              ∙ append_assoc early.0 (shown tick xs mid) (shown tick ys new)
              ∙ ap (λ (s : List (Sense n m)). early.0 ++ s) (shown-both tick xs ys mid new (λ line. second.others line refl)),
        );
  }

  -- a pulse and a sense
  pub touches-round : (tick line : ℕ) (before after : Prog n m) (old new : ArrayState n m) → IsRound line tick before after old new
      → (new.line line).held ≡ after.seen → Touches tick (line ∷ []) (Some line) false old new
  touches-round tick line before after old new round held = record {
    lines = round.sense.lines ∙ round.others.lines;
    others = λ at off. round.sense.line at ∙ round.others.others at (λ same. eqb-false line at off (sym same));
    pulses = λ at on.
        let P : ℕ → Type 0 = λ at. (new.line at).pulses ≡ counted (old.line at).pulses in
        subst P (eqb-true line at on) (ap (λ (l : LineState n m). l.pulses) (round.sense.line line) ∙ round.pulse.pulses);
    sticks = λ at on.
        let P : ℕ → Type 0 = λ at. Sticks old.bounds (old.line at) (new.line at) in
        subst P (eqb-true line at on)
        (subst (λ (l : LineState n m). Sticks old.bounds (old.line line) l) (sym (round.sense.line line))
        (sticks-pulsed old.bounds round.mask (old.line line) (round.between.line line) before.want round.pulse));
    tears = round.sense.tears ∙ round.tears;
    wear = round.sense.wear ∙ round.others.wear;
    bounds = round.sense.bounds ∙ round.others.bounds;
    log = λ after is.
        let was = round.sense.log after is in
        let pulses : (new.line line).pulses ≡ (round.between.line line).pulses = ap (λ (l : LineState n m). l.pulses) (round.sense.line line) in
        (was.0, sym round.others.log ∙ was.1, cc);
  }

  -- a tear
  pub touches-tear : (tick line : ℕ) (prog : Prog n m) (old new : ArrayState n m) → IsTear line prog old new → Touches tick [] (Some line) true old new
  touches-tear tick line prog old new tear = record {
    lines = tear.others.lines;
    others = λ at off. tear.others.others at (λ same. eqb-false line at off (sym same));
    pulses = λ at on.
        let P : ℕ → Type 0 = λ at. (new.line at).pulses ≡ counted (old.line at).pulses in
        subst P (eqb-true line at on) tear.tear.pulses;
    sticks = λ at on.
        let P : ℕ → Type 0 = λ at. Sticks old.bounds (old.line at) (new.line at) in
        subst P (eqb-true line at on) (sticks-torn old.bounds tear.mask (old.line line) (new.line line) tear.tear);
    tears = tear.tears;
    wear = tear.others.wear;
    bounds = tear.others.bounds;
    log = λ after is. (after, sym tear.others.log ∙ is, sym (append-nil after));
  }
