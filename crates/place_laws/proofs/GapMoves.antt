-- The gap moves of a history are those of the closed form, and a full turn of these copies each line once into each place.
use Rattle.std.proofs.Common.{◌≡◌, ℕ, zero, suc, ◌+◌, ◌<◌, ◌≤◌, ◌&&◌, inl, inr, Bool, true, false, List, [], ◌∷◌, ◌++◌, length, Option, Some, None, refl, sym, ap, ◌∙◌, subst, arith, cond, eqb, eqb-true}
use Rattle.std.{specs.Prelude.count_by, proofs.lemmas.Bool.{eq-eqb, cases_order, and_from}, proofs.lemmas.List.length-append, proofs.lemmas.List.Sums.sum_by-cons}
use Rattle.masked_bytes.specs.declared.entry.Entry.{Entry}
use Rattle.start_gap.{specs.Rotation.{move_after, moved_line, gap_after}, specs.Turn.Copies, specs.declared.Move.Move, proofs.FullTurn.has_each_pair_once}
use Rattle.bank_shape.specs.{declared.BankShape.BankShape, declared.Work.TheVariants.Nothing}
use Rattle.bank_shape.specs.declared.answer.Step.TheVariants as did
use Rattle.bank_model.specs.{After.{work_after, due_work}, Answers.{IsDone, MayAll}, Events.{BankEvent, Begin, Iterate}, History.{queue, moved_in, due_after, has_exhausted}}
use Rattle.place_laws.{specs.GapMoves.{moves_of, first_moves, GapMovesLaw, copies_into, FullTurnLaw}, proofs.Moves.{last_region, some-due}}

-- The moves of a history

-- one more move of some region
one-more : (lines own region t : ℕ) (step : Move) (moves : List Move) (b : Bool) → eqb own region ≡ b
    → (own ≡ region → step ≡ move_after lines t)
    → moves ≡ first_moves lines t → cond b (step ∷ moves) moves ≡ first_moves lines (cond b 1 0 + t)
one-more lines own region t step moves true is next same =
    let count : 1 + t ≡ suc t = omega arith in
    ap (λ s. s ∷ moves) (next (eqb-true own region is)) ∙ ap (λ ms. move_after lines t ∷ ms) same ∙ ap (λ k. first_moves lines k) (sym count)
one-more lines own region t step moves false is next same =
    let count : 0 + t ≡ t = omega arith in
    same ∙ ap (λ k. first_moves lines k) (sym count)

module _ {n : ℕ} (shape : BankShape) where
  -- a move that ends is the next one of the region of the last store
  ended-move : (h : List (BankEvent n)) (step : Move) → IsDone shape h (work_after shape h) (did.Moved step)
      → step ≡ move_after shape.lines (moved_in shape.lines h (last_region shape h))
  ended-move h step d = by (has_exhausted h) (due_after shape h) (queue shape h) refl d
    where
      by : (ex : Bool) (due : Option ℕ) (q : List (Entry n)) → due_after shape h ≡ due
          → IsDone shape h (cond ex Nothing (due_work shape h due q)) (did.Moved step)
          → step ≡ move_after shape.lines (moved_in shape.lines h (last_region shape h))
      by false (Some region) q is d =
          d ∙ ap (λ r. move_after shape.lines (moved_in shape.lines h r)) (sym (some-due shape h region is).own)
      by false None [] is d = absurd d
      by _ _ _ is d = absurd d

  moved-more : (h : List (BankEvent n)) (region : ℕ) (step : Move) → IsDone shape h (work_after shape h) (did.Moved step)
      → moves_of shape.lines h region ≡ first_moves shape.lines (moved_in shape.lines h region)
      → moves_of shape.lines (Iterate (did.Moved step) ∷ h) region ≡ first_moves shape.lines (moved_in shape.lines (Iterate (did.Moved step) ∷ h) region)
  moved-more h region step d same =
      one-more shape.lines (last_region shape h) region (moved_in shape.lines h region) step (moves_of shape.lines h region) (eqb (last_region shape h) region) refl
      (λ is. ended-move h step d ∙ ap (λ r. move_after shape.lines (moved_in shape.lines h r)) is) same

  moves-are : (most region : ℕ) (h : List (BankEvent n)) → MayAll shape most h
      → moves_of shape.lines h region ≡ first_moves shape.lines (moved_in shape.lines h region)
  moves-are most region [] may = refl
  moves-are most region (Begin (did.Moved step) ∷ h) may = moved-more h region step may.0.1 (moves-are most region h may.1)
  moves-are most region (Iterate (did.Moved step) ∷ h) may = moved-more h region step may.0.1 (moves-are most region h may.1)
  moves-are most region (_ ∷ h) may = moves-are most region h may.1

pub gap_moves_law : GapMovesLaw
gap_moves_law n most region shape h may = moves-are shape most region h may

-- A full turn

-- what stands before some of the first moves are the first ones themselves
length-first : (lines t : ℕ) → length (first_moves lines t) ≡ t
length-first lines zero = refl
length-first lines (suc t) = ap suc (length-first lines t)

first-rest : (lines t : ℕ) (later rest : List Move) → later ++ rest ≡ first_moves lines t → rest ≡ first_moves lines (length rest)
first-rest lines t [] rest is =
    let count : t ≡ length rest = sym (length-first lines t) ∙ ap length (sym is) in
    is ∙ ap (λ k. first_moves lines k) count
first-rest lines zero (m ∷ later) rest is = absurd (cc)
first-rest lines (suc t) (m ∷ later) rest is = first-rest lines t later rest (cc)

-- a move of the closed form copies this line into this place just where its number says so
copies-by : (lines line place t : ℕ) → copies_into line place (move_after lines t) ≡ true → Copies lines line place t
copies-by lines line place t is = by (eqb (moved_line lines t) line) (eqb (gap_after lines t) place) refl refl is
  where
    by : (a b : Bool) → eqb (moved_line lines t) line ≡ a → eqb (gap_after lines t) place ≡ b → (a && b) ≡ true → Copies lines line place t
    by true true copied into is = record { copied = eqb-true _ _ copied; into = eqb-true _ _ into }
    by _ _ copied into is = absurd (cc)

copies-so : (lines line place t : ℕ) → Copies lines line place t → copies_into line place (move_after lines t) ≡ true
copies-so lines line place t c = and_from _ _ (eq-eqb _ _ c.copied) (eq-eqb _ _ c.into)

module _ (lines line place : ℕ) where
  -- whether the first of these counts
  counted-more : (m : Move) (during : List Move) (b : Bool) (k : ℕ) → copies_into line place m ≡ b
      → count_by (copies_into line place) during ≡ k
      → count_by (copies_into line place) (m ∷ during) ≡ cond b 1 0 + k
  counted-more m during b k is count =
      sum_by-cons (λ x. cond (copies_into line place x) 1 0) m during ∙ ap (λ b. cond b 1 0 + count_by (copies_into line place) during) is ∙ ap (λ k. cond b 1 0 + k) count

  -- moves of which none copies the line into the place
  counted-none : (during earlier : List Move) → during ++ earlier ≡ first_moves lines (length during + length earlier)
      → ((t : ℕ) → length earlier ≤ t → t < length during + length earlier → Copies lines line place t → ⊥)
      → count_by (copies_into line place) during ≡ 0
  counted-none [] earlier is none = refl
  counted-none (m ∷ during) earlier is none =
      let more : suc (length during) + length earlier ≡ suc (length during + length earlier) = omega arith in
      let same : m ∷ (during ++ earlier) ≡ first_moves lines (suc (length during + length earlier)) =
      is ∙ ap (λ k. first_moves lines k) more in
      let head : m ≡ move_after lines (length during + length earlier) = cc in
      let rest : during ++ earlier ≡ first_moves lines (length during + length earlier) = cc in
      let fewer : count_by (copies_into line place) during ≡ 0 =
      counted-none during earlier rest (λ t le lt. none t le (omega (arith, lt, more))) in
      by (copies_into line place m) refl head fewer
    where
      by : (b : Bool) → copies_into line place m ≡ b → m ≡ move_after lines (length during + length earlier)
          → count_by (copies_into line place) during ≡ 0
          → count_by (copies_into line place) (m ∷ during) ≡ 0
      by true is head fewer =
          absurd (none (length during + length earlier) (omega arith) (omega arith) (copies-by lines line place _ (sym (ap (λ k. copies_into line place k) head) ∙ is)))
      by false is head fewer = counted-more m during false 0 is fewer

  -- moves of which that of number t copies it, and no other
  counted-one : (t : ℕ) (during earlier : List Move) → during ++ earlier ≡ first_moves lines (length during + length earlier)
      → length earlier ≤ t → t < length during + length earlier → Copies lines line place t
      → ((other : ℕ) → length earlier ≤ other → other < length during + length earlier → Copies lines line place other → other ≡ t)
      → count_by (copies_into line place) during ≡ 1
  counted-one t [] earlier is le lt copies only = let few : t < 0 + length earlier = lt in absurd (omega (arith, few, le))
  counted-one t (m ∷ during) earlier is le lt copies only =
      elim (cases_order t (length during + length earlier)) [
        | inl here ↦
            let yes : copies_into line place m ≡ true =
            ap (λ k. copies_into line place k) head ∙ copies-so lines line place _ (subst (λ k. Copies lines line place k) here copies) in
            let none : count_by (copies_into line place) during ≡ 0 =
            counted-none during earlier rest (λ other ge below c. let same : other ≡ t = only other ge (omega (arith, below, more)) c in omega (arith, same, here, below)) in
            counted-more m during true 0 yes none
        | inr (inl below) ↦
            let no : copies_into line place m ≡ false = other (copies_into line place m) refl below in
            let one : count_by (copies_into line place) during ≡ 1 =
            counted-one t during earlier rest le below copies (λ other ge lt c. only other ge (omega (arith, lt, more)) c) in
            counted-more m during false 1 no one
        | inr (inr above) ↦ absurd (omega (arith, above, lt, more))
      ]
    where
      more : suc (length during) + length earlier ≡ suc (length during + length earlier)
      more = omega arith

      same : m ∷ (during ++ earlier) ≡ first_moves lines (suc (length during + length earlier))
      same = is ∙ ap (λ k. first_moves lines k) more

      head : m ≡ move_after lines (length during + length earlier)
      head = let s = same in cc

      rest : during ++ earlier ≡ first_moves lines (length during + length earlier)
      rest = let s = same in cc

      other : (b : Bool) → copies_into line place m ≡ b → t < length during + length earlier → b ≡ false
      other false is below = refl
      other true is below =
          let so : Copies lines line place (length during + length earlier) =
          copies-by lines line place _ (sym (ap (λ k. copies_into line place k) head) ∙ is) in
          let same : length during + length earlier ≡ t = only (length during + length earlier) (omega arith) (omega (arith, more)) so in
          absurd (omega (arith, same, below))

pub full_turn_law : FullTurnLaw
full_turn_law n most region line place shape h later during earlier may is full l p =
    let some : 1 ≤ shape.lines = omega (arith, l) in
    let these : during ++ earlier ≡ first_moves shape.lines (length (during ++ earlier)) =
    first-rest shape.lines (moved_in shape.lines h region) later (during ++ earlier) (sym is ∙ moves-are shape most region h may) in
    let long : length (during ++ earlier) ≡ length during + length earlier = length-append during earlier in
    let only = has_each_pair_once shape.lines (length earlier) some line place l p in
    counted-one shape.lines line place only.0 during earlier (these ∙ ap (λ k. first_moves shape.lines k) long) only.1.begun
    (omega (arith, only.1.within, full)) only.1.copies (λ other ge lt c. only.1.only other ge (omega (arith, lt, full)) c)
