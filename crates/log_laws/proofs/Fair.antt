-- The senses of each of a bank's lines are fair.
use Rattle.std.proofs.Common.{◌≡◌, ℕ, ◌+◌, ◌-◌, ◌<◌, ◌≤◌, ◌==◌, ◌&&◌, ◌||◌, ◌⊎◌, inl, inr, Bool, true, false, List, [], ◌∷◌, ◌++◌, Option, Some, None, refl, sym, ap, ◌∙◌, subst, arith, cond, append_assoc, eq-eqb}
use Rattle.std.{specs.List.{list_any, list_all}, specs.Prelude.{All, nat_le, nat_lt, not}, proofs.lemmas.Bool.{and_from, or_left, le-leb}}
use Rattle.std.proofs.lemmas.List.Elements.{filter-append, All-head, All-tail}
use Rattle.cell_rows.specs.{Device.counted, declared.array.Sense.Sense}
use Rattle.bank_shape.specs.{Acting.{Choice, chosen_by}, Pausing.gives_way, Shape.{slots_of, lines_in, controls_from}, declared.BankShape.BankShape}
use Rattle.bank_shape.specs.{declared.clock.Doing.TheVariants.Serving, declared.pace.Pace.Pace}
use Rattle.bank_model.specs.{Adding.senses_of, After.may_begin_after, Changes.{change_after, keeping_after, halted_after, line_of_change}, Events.Cut, History.waits}
use Rattle.bank_model.specs.{Lawful.{Lawful, IsIdle}, Running.{choice_after, ready_by, ready_after}, Sensing.pulses_of}
use Rattle.bank_model.specs.Timing.{Happens, Core, TimedEvent, core, is_empty, last_tick}
use Rattle.bank_laws.{specs.Laws.IsSized, specs.Outcomes.{row_with, rows_from, table_of}, specs.Resting.{IsCutOff, EndsIn}, specs.Settling.AreOpen, proofs.Counted.counted-cases}
use Rattle.bank_laws.proofs.{Serves.idle-waits, Settling.opens, Targets.work-begins}
use Rattle.right_runs.specs.{Banks.rules_of, Logs.{begins_unpulsed_to, follow_on_to}}
use Rattle.row_rules.specs.Rows.{is_cut}
use Rattle.log_laws.{specs.Laws.PulseStepsLaw, proofs.Chains.{last_of, follow-same, begin-same, follow-off, begin-off, torn-end}, proofs.Owning.{own, own-kept, own-log}}
use Rattle.log_laws.proofs.{Pulsing.{Torn, Due, Busy, Shown}, Stepping.step}

-- where nothing is chosen no line write may be begun
none-begins : (way reads : Bool) (c : Choice) → chosen_by way reads c ≡ None → c.ready ≡ false
none-begins way reads c is = by (way && reads) c.busy reads c.ready is
  where
    by : (a b r k : Bool) → cond a (Some Serving) (cond b (Some c.going_on) (cond r (Some Serving) (cond k (Some c.beginning) None))) ≡ None → k ≡ false
    by a b r k is = grind arith

-- behind a history that ends with a power cut stands a cut at its last tick
cut-row : {n m : ℕ} (shape : BankShape) (all : List (TimedEvent n m)) → IsCutOff all → (k : ℕ) → k ≤ last_tick all → list_any (λ r. is_cut r && nat_le k r.tick) (rows_from shape all all) ≡ true
cut-row shape [] off k le = absurd off
cut-row {n} shape (x ∷ xs) off k le =
    ap (λ (h : Happens n). list_any (λ r. is_cut r && nat_le k r.tick) (row_with shape (x ∷ xs) h x.tick x.cancels ++ rows_from shape (x ∷ xs) xs)) off.1
    ∙ ap (λ (c : Bool). list_any (λ r. is_cut r && nat_le k r.tick) (row_with shape (x ∷ xs) (Core (Cut off.0)) x.tick c ++ rows_from shape (x ∷ xs) xs)) off.2
    ∙ or_left (nat_le k x.tick) _ (le-leb k x.tick le)

all-show : {n m : ℕ} (p : ℕ) (ss : List (Sense n m)) → All (λ s. s.pulses ≡ p) ss → list_all (λ s. s.pulses == p) ss ≡ true
all-show p [] are = refl
all-show {n} {m} p (s ∷ ss) are =
    and_from (s.pulses == p) _ (eq-eqb s.pulses p (All-head (λ (t : Sense n m). t.pulses ≡ p) s ss are))
    (all-show p ss (All-tail (λ (t : Sense n m). t.pulses ≡ p) s ss are))

module _ {n m : ℕ} (e : ℕ) (shape : BankShape) (pace : Pace) (wears : Bool) (line : ℕ) (wears_is : wears ≡ nat_lt line (controls_from shape)) (all : List (TimedEvent n m)) (sized : IsSized shape pace) (lawful : Lawful shape pace e all) where
  abbrev Known : List (TimedEvent n m) → Type 0
  Known zs = Shown shape pace (rules_of e shape pace) (rows_from shape all all) wears line all zs

  idle-first : Busy shape pace (rules_of e shape pace) (rows_from shape all all) wears line all [] → ⊥
  idle-first (inl k) = absurd (cc (k.1))
  idle-first (inr k) = absurd (cc (k.1))

  known : AreOpen shape all → (pre xs : List (TimedEvent n m)) → all ≡ pre ++ xs → Known xs
  known o pre [] same = inl (record { none = refl; unpulsed = refl; untouched = λ b. idle-first b })
  known o pre (x ∷ xs) same =
      step e shape pace wears line wears_is all sized lawful o pre x xs same (known o (pre ++ x ∷ []) xs (same ∙ sym (append_assoc pre (x ∷ []) xs)))

  -- where a bank has no work left, no line is torn
  mended : IsIdle shape pace all → (s : Sense n m) → Torn shape pace (rules_of e shape pace) (rows_from shape all all) wears line all all s → ⊥
  mended idle s t = absurd (cc (open_now t.due, none-begins (gives_way pace.policy) (not (is_empty (waits shape (core all)))) (choice_after shape pace all) idle.chosen))
    where
      ready-some : (change : Option ℕ) (keeping halted ready : Bool) → line_of_change shape change ≡ Some line → keeping ≡ false → halted ≡ false → ready_by change (keeping || halted) ready ≡ true
      ready-some change keeping halted ready is k h = grind arith

      open_now : Due shape pace (rules_of e shape pace) (rows_from shape all all) wears line all all → ready_after shape all ≡ true
      open_now (inl k) =
          ap (λ change. ready_by change (keeping_after all || halted_after all) (may_begin_after shape (core all))) k.0
          ∙ work-begins shape (core all) (waits shape (core all)) refl (idle-waits shape pace all idle) k.2 k.1
      open_now (inr k) = ready-some (change_after shape all) (keeping_after all) (halted_after all) (may_begin_after shape (core all)) k.0 k.1 k.2

  shown_in_end : (off : Bool) → EndsIn off shape pace all → (more : List (Sense n m)) → All (λ s. s.pulses ≡ pulses_of all line) more → Known all
      → begins_unpulsed_to (rules_of e shape pace) (rows_from shape all all) off wears (pulses_of all line) (own line (senses_of all) ++ more) ≡ true
  shown_in_end off ends more are (inl u) =
      subst (λ (ss : List (Sense n m)). begins_unpulsed_to (rules_of e shape pace) (rows_from shape all all) off wears (pulses_of all line) (ss ++ more) ≡ true) (sym u.none)
      (begin-off (rules_of e shape pace) (rows_from shape all all) wears off (pulses_of all line) more (begin-same (rules_of e shape pace) (rows_from shape all all) wears (pulses_of all line) more u.unpulsed are))
  shown_in_end off ends more are (inr v) =
      subst (λ (ss : List (Sense n m)). begins_unpulsed_to (rules_of e shape pace) (rows_from shape all all) off wears (pulses_of all line) (ss ++ more) ≡ true) (sym v.2.is)
      (and_from (v.0.pulses == 0) _ (subst (λ p. (p == 0) ≡ true) (sym v.2.first) refl) (last off ends v.2.now))
    where
      shows : (off : Bool) → (last_of v.0 v.1).pulses ≡ pulses_of all line → follow_on_to (rules_of e shape pace) (rows_from shape all all) off wears (pulses_of all line) v.0 (v.1 ++ more) ≡ true
      shows off same =
          follow-off (rules_of e shape pace) (rows_from shape all all) wears off (pulses_of all line) v.0 (v.1 ++ more)
          (follow-same (rules_of e shape pace) (rows_from shape all all) wears (pulses_of all line) v.0 v.1 more v.2.follow same are)

      torn_by : IsCutOff all → pulses_of all line ≡ (last_of v.0 v.1).pulses + 1 → follow_on_to (rules_of e shape pace) (rows_from shape all all) true wears (pulses_of all line) v.0 (v.1 ++ more) ≡ true
      torn_by cut up =
          torn-end (rules_of e shape pace) (rows_from shape all all) wears (pulses_of all line) v.0 v.1 more v.2.follow
          (and_from _ _ (eq-eqb ((last_of v.0 v.1).pulses + 1) (pulses_of all line) (sym up))
          (and_from _ _ (cut-row shape all cut ((last_of v.0 v.1).tick) v.2.below) (all-show (pulses_of all line) more are)))

      last : (off : Bool) → EndsIn off shape pace all → (pulses_of all line ≡ (last_of v.0 v.1).pulses) ⊎ Torn shape pace (rules_of e shape pace) (rows_from shape all all) wears line all all (last_of v.0 v.1)
          → follow_on_to (rules_of e shape pace) (rows_from shape all all) off wears (pulses_of all line) v.0 (v.1 ++ more) ≡ true
      last off ends (inl same) = shows off (sym same)
      last false idle (inr torn) = absurd (mended idle (last_of v.0 v.1) torn)
      last true cut (inr torn) = by (counted-cases ((last_of v.0 v.1).pulses) torn.few)
        where
          by : (counted (last_of v.0 v.1).pulses ≡ (last_of v.0 v.1).pulses) ⊎ (counted (last_of v.0 v.1).pulses ≡ (last_of v.0 v.1).pulses + 1)
              → follow_on_to (rules_of e shape pace) (rows_from shape all all) true wears (pulses_of all line) v.0 (v.1 ++ more) ≡ true
          by (inl stays) = shows true (sym (torn.up ∙ stays))
          by (inr more_by) = torn_by cut (torn.up ∙ more_by)

pub pulse_steps_law : PulseStepsLaw
pulse_steps_law off n m e shape pace xs array log extra sized lawful ends leaves is are line from below =
    subst (λ (ss : List (Sense n m)). begins_unpulsed_to (rules_of e shape pace) (table_of shape xs) off wears ((array.line line).pulses) ss ≡ true) (sym in_log)
    (subst (λ p. begins_unpulsed_to (rules_of e shape pace) (table_of shape xs) off wears p (own line (senses_of xs) ++ own line extra) ≡ true) (sym pulses)
    (shown_in_end e shape pace wears line refl xs sized lawful off ends (own line extra)
    (subst (λ p. All (λ s. s.pulses ≡ p) (own line extra)) pulses (own-kept line (λ l. (array.line l).pulses) extra are))
    (known e shape pace wears line refl xs sized lawful (opens shape pace e xs lawful) [] xs refl)))
  where
    wears : Bool
    wears = nat_lt line (shape.base + slots_of shape + shape.spares)

    in_log : own line log ≡ own line (senses_of xs) ++ own line extra
    in_log = own-log line shape log from below ∙ ap (λ (ss : List (Sense n m)). own line ss) is ∙ filter-append (λ (s : Sense n m). s.line == line) (senses_of xs) extra

    pulses : (array.line line).pulses ≡ pulses_of xs line
    pulses =
        let at : shape.base + (line - shape.base) ≡ line = omega arith in
        let inside : line - shape.base < lines_in shape = omega arith in
        subst (λ l. (array.line l).pulses ≡ pulses_of xs l) at (leaves.pulses (line - shape.base) inside)
