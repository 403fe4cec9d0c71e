-- The line writes that end on a slot's own array line: stores, gap moves, one that gives the line up, and those that are broken off.
use Rattle.std.proofs.Common.{◌≡◌, ◌⊎◌, inl, inr, ℕ, zero, suc, ◌+◌, ◌-◌, ◌*◌, ◌/◌, ◌<◌, ◌≤◌, ◌==◌, ◌&&◌, Bool, true, false, List, [], ◌∷◌, ◌++◌, length, refl, sym, ap, ◌∙◌, subst, arith, cond}
use Rattle.std.proofs.{lemmas.Bool.{eqb-true, eq-eqb}, lemmas.Nat.div-mul-add}
use Rattle.start_gap.specs.{Rotation.{gap_after, move_after}, declared.Move.Move}
use Rattle.spare_pool.{specs.Table.line_from, proofs.Lines.{only_own, line_from-more}}
use Rattle.bank_shape.specs.{Shape.{slots_of, slot_at}, declared.BankShape.BankShape, declared.Work.Work, declared.Work.TheVariants.{Nothing, Copy}, declared.answer.Step.Step}
use Rattle.bank_shape.specs.declared.answer.Step.TheVariants as did
use Rattle.bank_model.specs.{After.{work_after, due_work, slot_of_work, array_line_after, target_after}, Answers.{IsDone, MayAll}, Events.{BankEvent, Begin, Iterate, Cut}}
use Rattle.bank_model.specs.{History.{in_progress, retired, has_exhausted, moved_in, due_after, queue}, Works.{tally, works_on}}
use Rattle.place_laws.proofs.{Moves.{last_region, some-due}, Slots.{IsAway, away-more, begin-retires_none, begin-exhausts_none}, Working.done-move}
use Rattle.bank_laws.proofs.Targets.{WorkAfter, working, unexhausted}
use Rattle.lifetime_laws.{specs.Spread.passing, proofs.Counting.{passing-at, passing-within}, proofs.Landing.{any, stored_tally}}
use Rattle.masked_bytes.proofs.Counting.{one_if}

pub below_one : (k : ℕ) → (1 ≤ k → ⊥) → k < 1
below_one zero isnt = omega arith
below_one (suc k) isnt = absurd (isnt (omega arith))

abbrev is_moving : Step → Bool
is_moving (did.Moved step) = true
is_moving _ = false

abbrev gives_up : Step → Bool
gives_up (did.Retired slot line) = true
gives_up did.Exhausted = true
gives_up _ = false

module _ {n : ℕ} (shape : BankShape) (at : ℕ) where
  abbrev pub moved_tally : List (BankEvent n) → ℕ
  moved_tally h = tally (λ h answer. is_moving answer && target_after shape h == at) (λ h. false) h

  abbrev pub gave_tally : List (BankEvent n) → ℕ
  gave_tally h = tally (λ h answer. gives_up answer && target_after shape h == at) (λ h. false) h

  abbrev pub cut_tally : List (BankEvent n) → ℕ
  cut_tally h = tally (λ h answer. false) (λ h. in_progress h && target_after shape h == at) h

  -- a store is done at its target
  done-place : (h : List (BankEvent n)) (work : Work) (row place : ℕ) → IsDone shape h work (did.Stored row place) → place ≡ array_line_after shape h (slot_of_work shape h work)
  done-place h work row place d = grind arith

  -- each is one of these
  pub works-split : (most : ℕ) (h : List (BankEvent n)) → MayAll shape most h → works_on shape at h ≡ stored_tally any at h + moved_tally h + gave_tally h + cut_tally h
  works-split most [] may = refl
  works-split most (Begin (did.Stored row place) ∷ h) may =
      let same : one_if (place == at) ≡ one_if (target_after shape h == at) = ap (λ x. one_if (x == at)) (done-place h (work_after shape h) row place may.0.1) in
      omega (arith, same, works-split most h may.1)
  works-split most (Begin _ ∷ h) may = omega (arith, works-split most h may.1)
  works-split most (Iterate (did.Stored row place) ∷ h) may =
      let same : one_if (place == at) ≡ one_if (target_after shape h == at) = ap (λ x. one_if (x == at)) (done-place h (work_after shape h) row place may.0.1) in
      omega (arith, same, works-split most h may.1)
  works-split most (Iterate _ ∷ h) may = omega (arith, works-split most h may.1)
  works-split most (Cut tearing ∷ h) may = omega (arith, works-split most h may.1)
  works-split most (_ ∷ h) may = works-split most h may.1

module _ (shape : BankShape) (slot : ℕ) where
  -- the test of moves into the slot
  abbrev pub into : ℕ → Bool
  into t = gap_after shape.lines t == slot - slot / (shape.lines + 1) * (shape.lines + 1)

  abbrev pub region : ℕ
  region = slot / (shape.lines + 1)

  -- where a gap is the slot, its region and its place are the slot's
  gap-region : (r t : ℕ) → slot_at shape r (gap_after shape.lines t) ≡ slot → (r ≡ region) × (into t ≡ true)
  gap-region r t is =
      let few : gap_after shape.lines t < shape.lines + 1 = omega arith in
      let own : slot / (shape.lines + 1) ≡ r = ap (λ x. x / (shape.lines + 1)) (sym is) ∙ div-mul-add r (shape.lines + 1) (gap_after shape.lines t) few in
      let back : slot / (shape.lines + 1) * (shape.lines + 1) ≡ r * (shape.lines + 1) = ap (λ x. x * (shape.lines + 1)) own in
      (sym own, eq-eqb (gap_after shape.lines t) (slot - slot / (shape.lines + 1) * (shape.lines + 1)) (omega (arith, is, back)))

  -- one more move, into the slot or not
  move-step : (here its : Bool) (m found : ℕ) → (here ≡ true → (its ≡ true) × (into m ≡ true)) → found ≤ passing into m → one_if here + found ≤ passing into (one_if its + m)
  move-step true its m found h few =
      let moved : one_if its ≡ 1 = ap one_if (h refl).0 in
      let passes : one_if (into m) ≡ 1 = ap one_if (h refl).1 in
      let next : passing into (one_if its + m) ≡ passing into (suc m) = passing-at into (one_if its + m) (suc m) (omega (arith, moved)) in
      omega (arith, next, passes, few)
  move-step false its m found h few = omega (arith, few, passing-within into m (one_if its + m) (omega arith))

module _ {n : ℕ} (shape : BankShape) (slot : ℕ) (exists : slot < slots_of shape) where
  -- a slot whose array line is that of a slot's own number is that slot
  own-slot : (h : List (BankEvent n)) (other : ℕ) → array_line_after shape h other ≡ shape.base + slot → other ≡ slot
  own-slot h other is =
      only_own (record { slots = slots_of shape; spares = shape.spares; replaced = retired h }) slot exists other
      (let same : line_from (slots_of shape) other (retired h) other ≡ slot = omega (arith, is) in same)

  moved-target : (h : List (BankEvent n)) (step : Move) → IsDone shape h (work_after shape h) (did.Moved step) → target_after shape h ≡ shape.base + slot
      → (last_region shape h ≡ region shape slot) × (into shape slot (moved_in shape.lines h (region shape slot)) ≡ true)
  moved-target h step d target =
      let m = done-move shape h step d in
      let due = some-due shape h m.region m.due in
      let work : work_after shape h ≡ Copy m.region (move_after shape.lines (moved_in shape.lines h m.region)) =
      ap (λ b. cond b Nothing (due_work shape h (due_after shape h) (queue shape h))) m.fine ∙ ap (λ due. due_work shape h due (queue shape h)) m.due in
      let gap : array_line_after shape h (slot_at shape m.region (gap_after shape.lines (moved_in shape.lines h m.region))) ≡ shape.base + slot =
      sym (ap (λ work. array_line_after shape h (slot_of_work shape h work)) work) ∙ target in
      let own = gap-region shape slot m.region (moved_in shape.lines h m.region) (own-slot h _ gap) in
      (due.own ∙ own.0, subst (λ r. into shape slot (moved_in shape.lines h r) ≡ true) own.0 own.1)

  pub moves-into : (most : ℕ) (h : List (BankEvent n)) → MayAll shape most h → moved_tally shape (shape.base + slot) h ≤ passing (into shape slot) (moved_in shape.lines h (region shape slot))
  moves-into most [] may = omega arith
  moves-into most (Cut tearing ∷ h) may = omega (arith, moves-into most h may.1)
  moves-into most (Begin (did.Moved step) ∷ h) may =
      move-step shape slot (target_after shape h == shape.base + slot) (last_region shape h == region shape slot) (moved_in shape.lines h (region shape slot)) (moved_tally shape (shape.base + slot) h)
      (λ is. let m = moved-target h step may.0.1 (eqb-true _ _ is) in (eq-eqb (last_region shape h) (region shape slot) m.0, m.1)) (moves-into most h may.1)
  moves-into most (Begin _ ∷ h) may = omega (arith, moves-into most h may.1)
  moves-into most (Iterate (did.Moved step) ∷ h) may =
      move-step shape slot (target_after shape h == shape.base + slot) (last_region shape h == region shape slot) (moved_in shape.lines h (region shape slot)) (moved_tally shape (shape.base + slot) h)
      (λ is. let m = moved-target h step may.0.1 (eqb-true _ _ is) in (eq-eqb (last_region shape h) (region shape slot) m.0, m.1)) (moves-into most h may.1)
  moves-into most (Iterate _ ∷ h) may = omega (arith, moves-into most h may.1)
  moves-into most (_ ∷ h) may = moves-into most h may.1

  -- the slot has lost its own line, or the bank is exhausted
  abbrev pub IsOver : List (BankEvent n) → Type 0
  IsOver h = IsAway shape h slot ⊎ (has_exhausted h ≡ true)

  pub record GivesOnce (h : List (BankEvent n)) : Type 0 where
    pub few : gave_tally shape (shape.base + slot) h ≤ 1
    pub over : 1 ≤ gave_tally shape (shape.base + slot) h → IsOver h

  -- a work of the slot's own line isn't there when that is over
  pub not-over : (h : List (BankEvent n)) → WorkAfter shape h → target_after shape h ≡ shape.base + slot → IsOver h → ⊥
  not-over h work target (inl away) =
      let other = own-slot h (slot_of_work shape h (work_after shape h)) target in
      let own : line_from (slots_of shape) slot (retired h) slot ≡ slot =
      subst (λ s. line_from (slots_of shape) s (retired h) s ≡ slot) other
      (let same : line_from (slots_of shape) (slot_of_work shape h (work_after shape h)) (retired h) (slot_of_work shape h (work_after shape h)) ≡ slot = omega (arith, target) in same) in
      omega (arith, away, own, exists)
  not-over h work target (inr ex) = absurd (cc (unexhausted (has_exhausted h) (due_after shape h) (queue shape h) work, ex))

  over-more : (event : BankEvent n) (h : List (BankEvent n)) → IsOver h → (has_exhausted h ≡ true → has_exhausted (event ∷ h) ≡ true) → IsOver (event ∷ h)
  over-more event h (inl away) go = inl (away-more shape event h slot away)
  over-more event h (inr ex) go = inr (go ex)

  keeps-over : (event : BankEvent n) (h : List (BankEvent n)) → gave_tally shape (shape.base + slot) (event ∷ h) ≡ gave_tally shape (shape.base + slot) h
      → (has_exhausted h ≡ true → has_exhausted (event ∷ h) ≡ true) → GivesOnce h → GivesOnce (event ∷ h)
  keeps-over event h same go g = record { few = omega (arith, same, g.few); over = λ le. over-more event h (g.over (omega (arith, le, same))) go }

  -- one is given up: the first on this line
  gives : (most : ℕ) (event : BankEvent n) (h : List (BankEvent n)) (b : Bool) → (target_after shape h == shape.base + slot) ≡ b → MayAll shape most h → in_progress h ≡ true
      → gave_tally shape (shape.base + slot) (event ∷ h) ≡ one_if b + gave_tally shape (shape.base + slot) h
      → (has_exhausted h ≡ true → has_exhausted (event ∷ h) ≡ true) → (b ≡ true → IsOver (event ∷ h)) → GivesOnce h → GivesOnce (event ∷ h)
  gives most event h true is may busy count go now g =
      let none : gave_tally shape (shape.base + slot) h < 1 = below_one (gave_tally shape (shape.base + slot) h) (λ le. not-over h (working shape most h may busy) (eqb-true _ _ is) (g.over le)) in
      record { few = omega (arith, count, none); over = λ le. now refl }
  gives most event h false is may busy count go now g = keeps-over event h (omega (arith, count)) go g

  away-now : (h : List (BankEvent n)) (at : ℕ) → at ≡ slot → slots_of shape ≤ line_from (slots_of shape) slot (retired h ++ at ∷ []) slot
  away-now h at same = subst (λ k. slots_of shape ≤ k) (sym (line_from-more (slots_of shape) slot (retired h) at slot ∙ ap (λ b. cond b (slots_of shape + length (retired h)) (line_from (slots_of shape) slot (retired h) slot)) (eq-eqb at slot same))) (omega arith)

  pub gives-once : (most : ℕ) (h : List (BankEvent n)) → MayAll shape most h → GivesOnce h
  gives-once most [] may = record { few = omega arith; over = λ le. absurd (omega (arith, le)) }
  gives-once most (Cut tearing ∷ h) may = keeps-over _ h (omega arith) (λ ex. ex) (gives-once most h may.1)
  gives-once most (Begin (did.Retired at line) ∷ h) may = absurd (begin-retires_none shape h (work_after shape h) at line may.0.1)
  gives-once most (Begin did.Exhausted ∷ h) may = absurd (begin-exhausts_none shape h (work_after shape h) may.0.1)
  gives-once most (Begin _ ∷ h) may = keeps-over _ h (omega arith) (λ ex. ex) (gives-once most h may.1)
  gives-once most (Iterate (did.Retired at line) ∷ h) may =
      gives most (Iterate (did.Retired at line)) h (target_after shape h == shape.base + slot) refl may.1 may.0.0 refl (λ ex. ex)
      (λ is. inl (away-now h at (may.0.1.0 ∙ own-slot h (slot_of_work shape h (work_after shape h)) (eqb-true _ _ is)))) (gives-once most h may.1)
  gives-once most (Iterate did.Exhausted ∷ h) may =
      gives most (Iterate did.Exhausted) h (target_after shape h == shape.base + slot) refl may.1 may.0.0 refl (λ ex. refl) (λ is. inr refl) (gives-once most h may.1)
  gives-once most (Iterate _ ∷ h) may = keeps-over _ h (omega arith) (λ ex. ex) (gives-once most h may.1)
  gives-once most (_ ∷ h) may = keeps-over _ h refl (λ ex. ex) (gives-once most h may.1)
