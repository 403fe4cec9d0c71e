-- How the control lines of a bank age over one event.
use Rattle.std.proofs.Common.{◌≡◌, ℕ, ◌+◌, ◌<◌, ◌≤◌, ◌&&◌, not, is_some, Bool, true, false, cond, List, [], ◌∷◌, Option, Some, None, min, refl, sym, ap, ◌∙◌, subst, arith}
use Rattle.std.{specs.Prelude.{IfSome, IsSomeAnd}, proofs.lemmas.Bool.{both_ways, eqb-true, ne_eqb, false_from_ne_true}}
use Rattle.cell_rows.specs.Device.{CellBounds, LineState, ArrayState, IsBlank}
use Rattle.program_verify.specs.Programming.{IsRound, is_wrong}
use Rattle.line_writer.specs.{Orderly.{IsLive, IsOrderly}, declared.writer.LineWriter.LineWriter, declared.writer.Progress.Progress}
use Rattle.line_writer.proofs.{Orderly.{plain, orderly-round, orderly-tear, orderly-blank, AreOrderly-same}, Rounds.leaves-round}
use Rattle.line_writer.specs.declared.writer.Progress.TheVariants as progress
use Rattle.bank_shape.specs.{Shape.{slots_of, lines_in, controls_from, controls_of, control_line}, declared.BankShape.BankShape, declared.answer.Keep.Keep}
use Rattle.bank_shape.specs.declared.clock.Doing.TheVariants.{Iterating}
use Rattle.bank_shape.specs.declared.answer.Keep.TheVariants as keep
use Rattle.bank_model.specs.{After.target_after, Aging.{Ages, MissesUnspent, AreAged, most_written}}
use Rattle.bank_model.specs.Changes.{change_after, change_by, keeping_after, keeping_by, keeps_on, written_by, rounds_after, rounds_by, line_of_change}
use Rattle.bank_model.specs.{Events.{Write, Read, Serve, Begin, Iterate, Cut}, Lawful.MayCome, Running.running_at, Sensing.{is_at, torn_control}}
use Rattle.bank_model.specs.{Timing.{TimedEvent, Happens, Core, Regs, KeepBegin, KeepIterate, KeepCut, core, is_doing}, Touching.{Strikes, Touches}}
use Rattle.bank_model.{specs.Works.{ends_keeping, is_written, written_on, rounds_on}, proofs.Sticking.{strikes-pulsed, strikes-torn}}
use Rattle.reg_lines.specs.{Keeping.{keep_from, IsIteration}, Regs.{RegsState, IsWritingOf}, declared.Change.Change}
use Rattle.register_laws.specs.{Control.Control, Telling.item_of}
use Rattle.clock_laws.specs.{Leads.{HasAged, Reaches}, State.ClockState, Tearing.{TearsBetween, TearsControl, GoesOnWriting}}
use Rattle.clock_laws.proofs.{Aging.{IsAged, struck-ended, struck-going, aged-as, aged-ended, aged-same, aged-first}, Ranges.target_after-low}

-- One line

-- an event that doesn't iterate breaks the pulse of a control line off
abbrev is_broken : {n : ℕ} → Happens n → Bool
is_broken (Regs (KeepIterate answer)) = false
is_broken happens = true

-- nothing, whether a test holds or not
none-cond : (b : Bool) → ◌≡◌ {A = ℕ} (cond b 0 0) 0
none-cond b = grind arith

off-cond : (a b : Bool) (k : ℕ) → b ≡ false → ◌≡◌ {A = ℕ} (cond (a && b) k 0) 0
off-cond true b k off = ap (λ b. cond b k 0) off
off-cond false b k off = refl

more-progress : (p : Progress) → keep.More ≡ keep_from p → p ≡ progress.More
more-progress p is = grind arith

module _ {n m e : ℕ} (xs : List (TimedEvent n m)) (clock : ClockState n m e) (x : TimedEvent n m) (now : RegsState n m e) (sensed : List ℕ) (tearing : Bool) (old new : ArrayState n m)
    (r : Reaches xs clock old) (touches : Touches x.tick sensed x.pulsed tearing old new) where
  abbrev shape : BankShape
  shape = clock.bank.kept.shape

  abbrev regs : RegsState n m e
  regs = clock.regs

  -- what is written goes on
  own-writing : (writer : LineWriter n m e) (change : Change) → regs.writer ≡ Some writer → regs.change ≡ Some change → IsWritingOf writer (old.line (regs.base + change.item)) change
  own-writing writer change runs stands =
      let both = subst (λ (o : Option (LineWriter n m e)). IfSome o (λ w. IsSomeAnd regs.change (λ c. IsWritingOf w (old.line (regs.base + c.item)) c))) runs r.control.held.writing in
      subst (λ (o : Option Change). IsSomeAnd o (λ c. IsWritingOf writer (old.line (regs.base + c.item)) c)) stands both

  -- and its line is one of the control lines, which are orderly
  own-orderly : (change : Change) → regs.change ≡ Some change → IsOrderly old.bounds.misses (old.line (regs.base + change.item))
  own-orderly change stands =
      let within : change.item < regs.items = subst (λ (o : Option Change). IfSome o (λ c. c.item < regs.items)) stands r.control.item in
      let below : change.item < controls_of shape = subst (λ (k : ℕ). change.item < k) r.control.own.items within in
      subst (λ (base : ℕ). IsOrderly old.bounds.misses (old.line (base + change.item))) (sym r.control.own.base) (r.aged.orderly change.item below)

  -- a cell of it that is wrong has missed in each iteration, where no cell is stuck
  own-missed : (writer : LineWriter n m e) (change : Change) → regs.writer ≡ Some writer → regs.change ≡ Some change → IsLive (old.line (regs.base + change.item))
      → (c : ℕ) → is_wrong writer.prog c ≡ true → rounds_after xs ≤ (old.line (regs.base + change.item)).misses c
  own-missed writer change runs stands live c wrong =
      let missed = (own-writing writer change runs stands).writes.writing.prog.missed c wrong (live c) in
      let made : rounds_after xs ≤ writer.prog.rounds = r.aged.rounds writer change runs stands live in
      omega (arith, made, missed.0)

  -- what becomes of a control line that is pulsed or torn
  abbrev IsHit : ℕ → Bool → Type 0
  IsHit at breaks =
      (IsLive (old.line at) → Strikes old.bounds (rounds_after xs) breaks (old.line at) (new.line at)) × IsOrderly new.bounds.misses (new.line at)

  iterated-hit : (answer : Keep) (step : IsIteration x.tick regs now answer old new) → IsHit (regs.base + step.change.item) false
  iterated-hit answer step =
      let at : ℕ = regs.base + step.change.item in
      let writing = own-writing step.writer step.change step.runs step.stands in
      let round : IsRound at x.tick step.writer.prog step.step.round.0 old new = step.step.round.1 in (
        λ live.
            subst (λ (l : LineState n m). Strikes old.bounds (rounds_after xs) false (old.line at) l) (sym (round.sense.line at))
            (strikes-pulsed old.bounds round.mask (old.line at) (round.between.line at) (rounds_after xs) live
            (λ c on. own-missed step.writer step.change step.runs step.stands live c (sym (round.masked c) ∙ on)) step.writer.prog.want round.pulse),
        orderly-round step.writer at x.tick step.step.round.0 old new writing.more writing.writes round (own-orderly step.change step.stands),
      )

  torn-hit : (writer : LineWriter n m e) (change : Change) → regs.writer ≡ Some writer → regs.change ≡ Some change → TearsBetween (regs.base + change.item) writer old new
      → IsHit (regs.base + change.item) true
  torn-hit writer change runs stands torn =
      let at : ℕ = regs.base + change.item in
      let writing = own-writing writer change runs stands in (
        λ live.
            subst (λ (l : LineState n m). Strikes old.bounds (rounds_after xs) true (old.line at) l) (sym torn.last)
            (subst (λ (l : LineState n m). Strikes old.bounds (rounds_after xs) true l (torn.behind.line at)) torn.first
            (subst (λ (b : CellBounds). Strikes b (rounds_after xs) true (torn.before.line at) (torn.behind.line at)) torn.bounds
            (strikes-torn torn.before.bounds torn.tear.mask (torn.before.line at) (torn.behind.line at) (rounds_after xs)
            (subst (λ (l : LineState n m). IsLive l) (sym torn.first) live)
            (λ c on.
            subst (λ (l : LineState n m). rounds_after xs ≤ l.misses c) (sym torn.first)
            (own-missed writer change runs stands live c (sym (torn.tear.masked c) ∙ on)))
            torn.tear.tear))),
        subst (λ (l : LineState n m). IsOrderly new.bounds.misses l) (sym torn.last)
            (subst (λ (b : CellBounds). IsOrderly b.misses (torn.behind.line at)) (torn.tear.others.bounds ∙ torn.bounds ∙ sym touches.bounds)
            (orderly-tear writer at torn.before torn.behind writing.more
            (subst (λ (l : LineState n m). IsWritingOf writer l change) (sym torn.first) writing).writes torn.tear
            (subst (λ (b : CellBounds). IsOrderly b.misses (torn.before.line at)) (sym torn.bounds)
            (subst (λ (l : LineState n m). IsOrderly old.bounds.misses l) (sym torn.first) (own-orderly change stands))))),
      )

  module _ (item : ℕ) (below : item < controls_of shape) where
    abbrev at : ℕ
    at = control_line shape item

    -- the change that stands, if it is written to this line
    change-of : is_written shape at xs ≡ true → (change : Change) × (regs.change ≡ Some change)
    change-of is = by regs.change refl
      where
        by : (o : Option Change) → regs.change ≡ o → (change : Change) × (regs.change ≡ Some change)
        by None none =
            let told : None ≡ change_after shape xs = sym (ap (λ (o : Option Change). item_of o) none) ∙ r.regs.change in
            absurd (both_ways (is_written shape at xs) (sym (ap (λ change. is_at (line_of_change shape change) at) told)) is)
        by (Some change) stands = (change, stands)

    line-at : (change : Change) → regs.change ≡ Some change → is_written shape at xs ≡ true → regs.base + change.item ≡ at
    line-at change stands is =
        let told : Some change.item ≡ change_after shape xs = sym (ap (λ (o : Option Change). item_of o) stands) ∙ r.regs.change in
        ap (λ base. base + change.item) r.control.own.base
        ∙ eqb-true (control_line shape change.item) at (ap (λ change. is_at (line_of_change shape change) at) told ∙ is)

    not-hit : (o : Option ℕ) → x.pulsed ≡ o → is_at o at ≡ false → is_at x.pulsed at ≡ true → ⊥
    not-hit o is off hit = both_ways (is_at x.pulsed at) (ap (λ o. is_at o at) is ∙ off) hit

    target-off : is_at (Some (target_after shape (core xs))) at ≡ false
    target-off = ne_eqb (target_after shape (core xs)) at (λ same. let low = target_after-low (core xs) clock.bank old r.holds in omega (arith, same, low))

    -- an event that pulses or tears the line is one of its writing
    abbrev Hits : Happens n → Type 0
    Hits h = (keeping_after xs ≡ true) × (is_written shape at xs ≡ true) × IsHit at (is_broken h)

    tears : (o : Option ℕ) → x.pulsed ≡ o → is_at o at ≡ true → is_written shape at xs ≡ true → TearsControl regs x.pulsed old new → IsHit at true
    tears o is on written torn =
        let (change, stands) = change-of written in
        let same : regs.base + change.item ≡ at = line-at change stands written in
        let hit : is_at x.pulsed (regs.base + change.item) ≡ true = ap (λ o. is_at o (regs.base + change.item)) is ∙ subst (λ (l : ℕ). is_at o l ≡ true) (sym same) on in
        let (writer, runs, between) = torn change stands hit in
        subst (λ (l : ℕ). IsHit l true) same (torn-hit writer change runs stands between)

    -- a cut tears it where an iteration of its writing runs
    torn-off : (b : Bool) (change : Option ℕ) → is_at (cond b (line_of_change shape change) None) at ≡ true
        → (is_at (line_of_change shape change) at ≡ true) × (is_some (cond b (line_of_change shape change) None) ≡ true)
    torn-off b change is = grind arith

    hits : (h : Happens n) → MayCome shape clock.pace e xs x h → GoesOnWriting x.tick regs now h x.pulsed old new → is_at x.pulsed at ≡ true → Hits h
    hits (Core (Iterate answer)) may goes hit = absurd (not-hit (Some (target_after shape (core xs))) may.pulsed target-off hit)
    hits (Core (Cut true)) may goes hit = absurd (not-hit (Some (target_after shape (core xs))) may.pulsed target-off hit)
    hits (Core (Cut false)) may goes hit =
        let torn : Option ℕ = torn_control shape (change_after shape xs) (running_at shape clock.pace xs x.tick) in
        let on : is_at torn at ≡ true = sym (ap (λ o. is_at o at) may.pulsed) ∙ hit in
        let (written, some) = torn-off (is_doing Iterating (running_at shape clock.pace xs x.tick)) (change_after shape xs) on in
        (may.on_time.4 some, written, tears torn may.pulsed on written goes)
    hits (Regs (KeepIterate answer)) may goes hit =
        let written : is_written shape at xs ≡ true = sym (ap (λ o. is_at o at) may.pulsed) ∙ hit in
        (may.may.0, written, subst (λ (l : ℕ). IsHit l false) (line-at goes.change goes.stands written) (iterated-hit answer goes))
    hits (Regs (KeepCut true)) may goes hit =
        let written : is_written shape at xs ≡ true = sym (ap (λ o. is_at o at) may.pulsed) ∙ hit in
        (may.may refl, written, tears (line_of_change shape (change_after shape xs)) may.pulsed written written goes)
    hits _ may goes hit = absurd (not-hit None may.pulsed refl hit)

    -- it stays orderly
    orderly-next : (h : Happens n) → MayCome shape clock.pace e xs x h → GoesOnWriting x.tick regs now h x.pulsed old new → IsOrderly new.bounds.misses (new.line at)
    orderly-next h may goes = by (is_at x.pulsed at) refl
      where
        by : (b : Bool) → is_at x.pulsed at ≡ b → IsOrderly new.bounds.misses (new.line at)
        by true is = (hits h may goes is).2.1
        by false is =
            subst (λ (b : CellBounds). IsOrderly b.misses (new.line at)) (sym touches.bounds)
            (subst (λ (l : LineState n m). IsOrderly old.bounds.misses l) (sym (touches.others at is)) (r.aged.orderly item below))

    -- How it ages

    abbrev works : ℕ
    works = written_on shape at xs

    abbrev held : ℕ
    held = rounds_on shape at xs

    was : IsAged old.bounds works held (old.line at)
    was = record { age = r.aged.controls.age item below; missed = r.aged.controls.missed item below }

    -- no pulse falls on it
    passed : (next made : ℕ) → is_at x.pulsed at ≡ false → IsAged old.bounds next made (old.line at) → IsAged old.bounds next made (new.line at)
    passed next made off aged = subst (λ (l : LineState n m). IsAged old.bounds next made l) (sym (touches.others at off)) aged

    none-pulsed : (o : Option ℕ) → x.pulsed ≡ o → is_at o at ≡ false → is_at x.pulsed at ≡ false
    none-pulsed o is off = ap (λ o. is_at o at) is ∙ off

    -- its line write is as it was
    stays : x.pulsed ≡ None → IsAged old.bounds (0 + works) held (new.line at)
    stays is = passed (0 + works) held (none-pulsed None is refl) (aged-as old.bounds works held (old.line at) was (0 + works) held (omega arith) refl)

    -- none is in progress on it, and one more or none has ended
    rests : (b : Bool) → is_at x.pulsed at ≡ false → held ≡ 0 → IsAged old.bounds (cond b 1 0 + works) 0 (new.line at)
    rests true off none = passed (1 + works) 0 off (aged-ended old.bounds works held (old.line at) was (1 + works) (omega (arith, none)))
    rests false off none = passed (0 + works) 0 off (aged-ended old.bounds works held (old.line at) was (0 + works) (omega (arith, none)))

    -- one that is in progress, if any, is broken off
    cut-off : (b : Bool) → (keeping_after xs && is_written shape at xs) ≡ b
        → (is_at x.pulsed at ≡ true → (keeping_after xs ≡ true) × (is_written shape at xs ≡ true) × IsHit at true) → IsAged old.bounds (cond b 1 0 + works) 0 (new.line at)
    cut-off b is hit = by (is_at x.pulsed at) refl
      where
        ended : (b : Bool) → (keeping_after xs && is_written shape at xs) ≡ b → works + min held 1 ≤ cond b 1 0 + works
        ended true is = omega arith
        ended false is = let none : held ≡ 0 = ap (λ b. cond b (rounds_after xs) 0) is in omega (arith, none)

        turned : works + 1 ≡ 1 + works
        turned = omega arith

        by : (hits : Bool) → is_at x.pulsed at ≡ hits → IsAged old.bounds (cond b 1 0 + works) 0 (new.line at)
        by true on =
            let (keeping, written, struck) = hit on in
            let going : (keeping_after xs && is_written shape at xs) ≡ true = ap (λ k. k && is_written shape at xs) keeping ∙ written in
            let made : held ≡ rounds_after xs = ap (λ b. cond b (rounds_after xs) 0) going in
            let own : IsAged old.bounds works (rounds_after xs) (old.line at) = subst (λ (k : ℕ). IsAged old.bounds works k (old.line at)) made was in
            subst (λ (b : Bool). IsAged old.bounds (cond b 1 0 + works) 0 (new.line at)) (sym going ∙ is)
            (subst (λ (k : ℕ). IsAged old.bounds k 0 (new.line at)) turned
            (struck-ended old.bounds (old.line at) (new.line at) works (rounds_after xs) true (touches.sticks at on) struck.0 own))
        by false off = passed (cond b 1 0 + works) 0 off (aged-ended old.bounds works held (old.line at) was (cond b 1 0 + works) (ended b is))

    -- an iteration of its writing, or of another line's
    goes-on : (going here : Bool) → keeping_after xs ≡ true → is_written shape at xs ≡ here → is_at x.pulsed at ≡ here
        → (is_at x.pulsed at ≡ true → IsHit at false) → IsAged old.bounds (cond (not going && here) 1 0 + works) (cond (going && here) (rounds_after xs + 1) 0) (new.line at)
    goes-on going here keeping written on hit = by going here written on
      where
        busy : held ≡ cond (is_written shape at xs) (rounds_after xs) 0
        busy = ap (λ b. cond (b && is_written shape at xs) (rounds_after xs) 0) keeping

        own : is_written shape at xs ≡ true → IsAged old.bounds works (rounds_after xs) (old.line at)
        own written = subst (λ (k : ℕ). IsAged old.bounds works k (old.line at)) (busy ∙ ap (λ b. cond b (rounds_after xs) 0) written) was

        none : is_written shape at xs ≡ false → held ≡ 0
        none written = busy ∙ ap (λ b. cond b (rounds_after xs) 0) written

        turned : works + 1 ≡ 1 + works
        turned = omega arith

        same : works ≡ 0 + works
        same = omega arith

        by : (going here : Bool) → is_written shape at xs ≡ here → is_at x.pulsed at ≡ here
            → IsAged old.bounds (cond (not going && here) 1 0 + works) (cond (going && here) (rounds_after xs + 1) 0) (new.line at)
        by true true written on =
            subst (λ (k : ℕ). IsAged old.bounds k (rounds_after xs + 1) (new.line at)) same
            (struck-going old.bounds (old.line at) (new.line at) works (rounds_after xs) false (touches.sticks at on) (hit on).0 (own written) refl)
        by false true written on =
            subst (λ (k : ℕ). IsAged old.bounds k 0 (new.line at)) turned
            (struck-ended old.bounds (old.line at) (new.line at) works (rounds_after xs) false (touches.sticks at on) (hit on).0 (own written))
        by _ _ written off = rests false off (none written)

    abbrev Next : Happens n → Type 0
    Next h =
        IsAged old.bounds (cond (ends_keeping h (keeping_after xs) && is_written shape at xs) 1 0 + works)
        (cond (keeping_by h (keeping_after xs) && is_at (line_of_change shape (change_by shape (core xs) h (change_after shape xs))) at) (rounds_by h (rounds_after xs)) 0)
        (new.line at)

    -- while no change stands none is in progress
    unheld : change_after shape xs ≡ None → held ≡ 0
    unheld none = off-cond (keeping_after xs) (is_written shape at xs) (rounds_after xs) (ap (λ change. is_at (line_of_change shape change) at) none)

    off-keeping : keeping_after xs ≡ false → held ≡ 0
    off-keeping off = ap (λ b. cond (b && is_written shape at xs) (rounds_after xs) 0) off

    ages-next : (h : Happens n) → MayCome shape clock.pace e xs x h → GoesOnWriting x.tick regs now h x.pulsed old new → Next h
    ages-next (Core (Begin answer)) may goes = rests false (none-pulsed None may.pulsed refl) (unheld may.on_time.2)
    ages-next (Core (Iterate answer)) may goes = rests false (none-pulsed (Some (target_after shape (core xs))) may.pulsed target-off) (unheld may.on_time.2)
    ages-next (Core (Cut tearing)) may goes = cut-off (keeping_after xs && is_written shape at xs) refl (λ hit. hits (Core (Cut tearing)) may goes hit)
    ages-next (Core _) may goes = stays may.pulsed
    ages-next (Regs (KeepBegin answer)) may goes =
        subst (λ (k : ℕ). IsAged old.bounds (cond (not (keeps_on answer) && is_written shape at xs) 1 0 + works) k (new.line at))
        (sym (none-cond (keeps_on answer && is_at (line_of_change shape (written_by answer (change_after shape xs))) at)))
        (rests (not (keeps_on answer) && is_written shape at xs) (none-pulsed None may.pulsed refl) (off-keeping may.may.0))
    ages-next (Regs (KeepIterate keep.More)) may goes =
        goes-on true (is_written shape at xs) may.may.0 refl (ap (λ o. is_at o at) may.pulsed) (λ hit. (hits (Regs (KeepIterate keep.More)) may goes hit).2)
    ages-next (Regs (KeepIterate keep.Done)) may goes =
        goes-on false (is_written shape at xs) may.may.0 refl (ap (λ o. is_at o at) may.pulsed) (λ hit. (hits (Regs (KeepIterate keep.Done)) may goes hit).2)
    ages-next (Regs (KeepIterate keep.Halted)) may goes =
        goes-on false (is_written shape at xs) may.may.0 refl (ap (λ o. is_at o at) may.pulsed) (λ hit. (hits (Regs (KeepIterate keep.Halted)) may goes hit).2)
    ages-next (Regs (KeepCut tearing)) may goes = cut-off (keeping_after xs && is_written shape at xs) refl (λ hit. hits (Regs (KeepCut tearing)) may goes hit)

  -- The rounds of the writing

  abbrev Made : RegsState n m e → ℕ → Type 0
  Made g count =
      (writer : LineWriter n m e) (change : Change) → g.writer ≡ Some writer → g.change ≡ Some change → IsLive (new.line (g.base + change.item)) → count ≤ writer.prog.rounds

  -- as before
  made-stays : x.pulsed ≡ None → now ≡ regs → Made now (rounds_after xs)
  made-stays none same =
      subst (λ (g : RegsState n m e). Made g (rounds_after xs)) (sym same)
      (λ writer change runs stands live.
      r.aged.rounds writer change runs stands
      (subst (λ (l : LineState n m). IsLive l) (touches.others (regs.base + change.item) (ap (λ o. is_at o (regs.base + change.item)) none)) live))

  -- one round more of the same programming
  made-more : (step : IsIteration x.tick regs now keep.More old new) → IsLive (new.line (regs.base + step.change.item)) → rounds_after xs + 1 ≤ step.now.prog.rounds
  made-more step live =
      let at : ℕ = regs.base + step.change.item in
      let writing = own-writing step.writer step.change step.runs step.stands in
      let round : IsRound at x.tick step.writer.prog step.step.round.0 old new = step.step.round.1 in
      let leaves = leaves-round at x.tick step.writer.prog step.step.round.0 old new round in
      let before : IsLive (old.line at) = λ c. false_from_ne_true _ (λ stuck. both_ways _ (live c) (leaves.stuck c stuck)) in
      let orderly = own-orderly step.change step.stands in
      let was = plain step.writer (old.line at) writing.more writing.writes orderly before in
      let is = plain step.now (new.line at) (more-progress step.now.progress step.is) step.step.writes
      (orderly-round step.writer at x.tick step.step.round.0 old new writing.more writing.writes round orderly) live in
      let made : rounds_after xs ≤ step.writer.prog.rounds = r.aged.rounds step.writer step.change step.runs step.stands before in
      omega (arith, made, was.left, is.left, was.rounds, is.rounds, step.step.fewer)

  made-iterated : (answer : Keep) → IsIteration x.tick regs now answer old new → Made now (rounds_after xs + 1)
  made-iterated keep.More step =
      subst (λ (g : RegsState n m e). Made g (rounds_after xs + 1)) (sym step.leaves)
      (λ writer change runs stands live.
      let same : step.now ≡ writer = cc (runs) in
      let alike : step.change ≡ change = cc (stands, step.stands) in
      subst (λ (w : LineWriter n m e). rounds_after xs + 1 ≤ w.prog.rounds) same
      (made-more step (subst (λ (c : Change). IsLive (new.line (regs.base + c.item))) (sym alike) live)))
  made-iterated _ step = subst (λ (g : RegsState n m e). Made g (rounds_after xs + 1)) (sym step.leaves) (λ writer change runs stands live. absurd (cc (runs)))

  made-next : (h : Happens n) → MayCome shape clock.pace e xs x h → GoesOnWriting x.tick regs now h x.pulsed old new → Made now (rounds_by h (rounds_after xs))
  made-next (Core (Write row line bytes given answer)) may goes = made-stays may.pulsed goes
  made-next (Core (Read row line answer)) may goes = made-stays may.pulsed goes
  made-next (Core (Serve answer)) may goes = made-stays may.pulsed goes
  made-next (Regs (KeepIterate answer)) may goes = made-iterated answer goes
  made-next _ may goes = λ writer change runs stands live. omega arith

  -- so the lines of the bank have aged by the longer history
  pub has-aged-next : MayCome shape clock.pace e xs x x.happens → GoesOnWriting x.tick regs now x.happens x.pulsed old new → AreAged shape (core (x ∷ xs)) new
      → HasAged shape (x ∷ xs) now new
  has-aged-next may goes lines = record {
    lines = lines;
    controls = record {
      age = λ item below.
          subst (λ (bounds : CellBounds). Ages bounds (most_written shape (control_line shape item) (x ∷ xs)) (new.line (control_line shape item))) (sym touches.bounds)
          (ages-next item below x.happens may goes).age;
      missed = λ item below. (ages-next item below x.happens may goes).missed;
    };
    orderly = λ item below. orderly-next item below x.happens may goes;
    rounds = made-next x.happens may goes;
  }

-- Other arrays

-- over another array in which each line of the bank is the same, and cells keep to the same bounds
pub has-aged-same : {n m e : ℕ} (xs : List (TimedEvent n m)) (clock : ClockState n m e) (old new : ArrayState n m) → Control clock.bank.kept clock.regs old → new.bounds ≡ old.bounds
    → ((line : ℕ) → line < lines_in clock.bank.kept.shape → new.line (clock.bank.kept.shape.base + line) ≡ old.line (clock.bank.kept.shape.base + line))
    → HasAged clock.bank.kept.shape xs clock.regs old → HasAged clock.bank.kept.shape xs clock.regs new
has-aged-same {n} {m} {e} xs clock old new control bounds same was = record {
  lines = aged-same shape (core xs) old new bounds same was.lines;
  controls = record {
    age = λ item below.
        subst (λ (bounds : CellBounds). Ages bounds (most_written shape (control_line shape item) xs) (new.line (control_line shape item))) (sym bounds)
        (subst (λ (l : LineState n m). Ages old.bounds (most_written shape (control_line shape item) xs) l) (sym (alike item below)) (was.controls.age item below));
    missed = λ item below.
        subst (λ (l : LineState n m). MissesUnspent (rounds_on shape (control_line shape item) xs) (written_on shape (control_line shape item) xs) l)
        (sym (alike item below)) (was.controls.missed item below);
  };
  orderly = AreOrderly-same old new (controls_from shape) (controls_of shape) bounds alike was.orderly;
  rounds = λ writer change runs stands live.
      was.rounds writer change runs stands (subst (λ (l : LineState n m). IsLive l) (own change stands) live);
}
  where
    shape : BankShape
    shape = clock.bank.kept.shape

    alike : (item : ℕ) → item < controls_of shape → new.line (control_line shape item) ≡ old.line (control_line shape item)
    alike item below =
        let at : shape.base + (slots_of shape + shape.spares + item) ≡ control_line shape item = omega arith in
        subst (λ (l : ℕ). new.line l ≡ old.line l) at (same (slots_of shape + shape.spares + item) (omega (arith, below)))

    own : (change : Change) → clock.regs.change ≡ Some change → new.line (clock.regs.base + change.item) ≡ old.line (clock.regs.base + change.item)
    own change stands =
        let within : change.item < clock.regs.items = subst (λ (o : Option Change). IfSome o (λ c. c.item < clock.regs.items)) stands control.item in
        let below : change.item < controls_of shape = subst (λ (k : ℕ). change.item < k) control.own.items within in
        subst (λ (base : ℕ). new.line (base + change.item) ≡ old.line (base + change.item)) (sym control.own.base) (alike change.item below)

-- lines that were never pulsed
pub has-aged-first : {n m e : ℕ} (shape : BankShape) (regs : RegsState n m e) (array : ArrayState n m) → ((line : ℕ) → line < lines_in shape → IsBlank (array.line (shape.base + line)))
    → HasAged {n = n} shape [] regs array
has-aged-first {n} {m} shape regs array blank = record {
  lines = aged-first shape array blank;
  controls = record {
    age = λ item below.
        let fresh = control-blank item below in
        record { live = λ none c. omega (arith, fresh.spent c); stuck = λ c is. absurd (cc (is, fresh.stuck c)) };
    missed = λ item below none c often. let fresh = control-blank item below in omega (arith, fresh.spent c);
  };
  orderly = λ item below. orderly-blank array.bounds.misses (array.line (control_line shape item)) (control-blank item below);
  rounds = λ writer change runs stands live. omega arith;
}
  where
    control-blank : (item : ℕ) → item < controls_of shape → IsBlank (array.line (control_line shape item))
    control-blank item below =
        let at : shape.base + (slots_of shape + shape.spares + item) ≡ control_line shape item = omega arith in
        subst (λ (l : ℕ). IsBlank (array.line l)) at (blank (slots_of shape + shape.spares + item) (omega (arith, below)))
