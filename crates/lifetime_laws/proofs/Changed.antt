-- The changes of an item, by the rows: of a region's one for each store and move, of any other at most one. So the pulses of a control
-- line.
use Rattle.std.proofs.Common.{◌≡◌, ◌⊎◌, inl, inr, ℕ, ◌+◌, ◌*◌, ◌/◌, ◌<◌, ◌≤◌, ◌==◌, ◌&&◌, not, Bool, true, false, List, [], ◌∷◌, ◌++◌, Option, Some, None, length, length-append, refl, sym, ap, ◌∙◌, subst, arith, cond}
use Rattle.std.{specs.Prelude.{count_by, nat_lt}, proofs.lemmas.Bool.{ne_eqb, ltb-true, ltb-false, cases_eq}, proofs.lemmas.Nat.{div_below, le-div}}
use Rattle.row_rules.specs.{Answers.is_stored, Rows.is_cut, Ticking.tries, declared.Row.Row}
use Rattle.bank_shape.specs.{Pausing.is_cancelling, Shape.{slots_of, control_line}, declared.BankShape.BankShape, declared.Home.Home, declared.pace.Pace.Pace}
use Rattle.bank_shape.specs.declared.Home.TheVariants as home
use Rattle.bank_shape.specs.declared.answer.Step.TheVariants as did
use Rattle.bank_model.specs.{After.work_after, Answers.MayAll, Changes.{item_if, change_after, keeping_after, rounds_after, halted_after, line_of_change}}
use Rattle.bank_model.specs.{Events.{BankEvent, Begin, Iterate, line_of_row}, History.{first_or, stores, stored_in, moved_in, retired, has_exhausted, in_progress}, Lawful.Lawful}
use Rattle.bank_model.specs.{Running.{busy_by, busy_after, cancels_after}, Sensing.{is_at, most_steps, pulses_of}, Timing.{TimedEvent, core}, Works.{written_on, rounds_on}}
use Rattle.bank_laws.{specs.Laws.IsSized, specs.Outcomes.table_of, proofs.Waiting.may_all}
use Rattle.right_runs.specs.{LineWrites.{most_changes, most_kept}, Places.region_stores}
use Rattle.place_laws.proofs.{Cancels.cancels-kept, Moves.keeps, Pulses.{cuts-counted, bounded}, Slots.{begin-retires_none, begin-exhausts_none}}
use Rattle.place_laws.proofs.{Storing.{stored-counted, region-stored}, Tables.region-all, Trying.{cuts_in, exhausted-idle}}
use Rattle.log_laws.proofs.Within.{row_line-within, last-within}
use Rattle.lifetime_laws.{specs.Works.{ControlPulsesLaw, ControlAgesLaw}, proofs.Broken.by-policy, proofs.Ended.below_one}
use Rattle.lifetime_laws.proofs.Keeping.{is_item, changes_of, IsKept, Kept, kept, Written, written, none-cond, stops-cond}
use Rattle.masked_bytes.proofs.Counting.{one_if}

-- a change is of this item, or of another
some-item : (where_ : Home) (other item : ℕ) → one_if (is_item item (item_if where_ other)) ≤ one_if (other == item)
some-item where_ other item = grind arith

other-item : (where_ : Home) (other item : ℕ) → (other ≡ item → ⊥) → one_if (is_item item (item_if where_ other)) ≡ 0
other-item where_ other item isnt =
    let few : one_if (is_item item (item_if where_ other)) ≤ one_if (other == item) = some-item where_ other item in
    let none : one_if (other == item) ≡ 0 = ap one_if (ne_eqb other item isnt) in
    omega (arith, few, none)

-- those of a region
module _ {n : ℕ} (shape : BankShape) (item : ℕ) (exists : item < shape.regions) where
  changes-region : (most : ℕ) (h : List (BankEvent n)) → MayAll shape most h → changes_of shape item h ≤ stored_in shape.lines h item + moved_in shape.lines h item
  changes-region most [] may = omega arith
  changes-region most (Begin did.More ∷ h) may = omega (arith, changes-region most h may.1)
  changes-region most (Begin (did.Stored row place) ∷ h) may = omega (arith, changes-region most h may.1, some-item shape.home (line_of_row row h / shape.lines) item)
  changes-region most (Begin (did.Moved step) ∷ h) may = omega (arith, changes-region most h may.1, some-item shape.home (first_or 0 (stores h) / shape.lines) item)
  changes-region most (Begin (did.Retired slot line) ∷ h) may = absurd (begin-retires_none shape h (work_after shape h) slot line may.0.1)
  changes-region most (Begin did.Exhausted ∷ h) may = absurd (begin-exhausts_none shape h (work_after shape h) may.0.1)
  changes-region most (Iterate did.More ∷ h) may = omega (arith, changes-region most h may.1)
  changes-region most (Iterate (did.Stored row place) ∷ h) may = omega (arith, changes-region most h may.1, some-item shape.home (line_of_row row h / shape.lines) item)
  changes-region most (Iterate (did.Moved step) ∷ h) may = omega (arith, changes-region most h may.1, some-item shape.home (first_or 0 (stores h) / shape.lines) item)
  changes-region most (Iterate (did.Retired slot line) ∷ h) may =
      omega (arith, changes-region most h may.1, other-item shape.home (shape.regions + length (retired h)) item (λ e. omega (arith, e, exists)))
  changes-region most (Iterate did.Exhausted ∷ h) may =
      omega (arith, changes-region most h may.1, other-item shape.home (shape.regions + shape.spares) item (λ e. omega (arith, e, exists)))
  changes-region most (_ ∷ h) may = changes-region most h may.1

-- that of a spare, and that of the mark
module _ {n : ℕ} (shape : BankShape) (some : 1 ≤ shape.regions) (lines : 1 ≤ shape.lines) (item : ℕ) (beyond : shape.regions ≤ item) where
  -- it came at most once: with the spare's retirement, or as the bank was exhausted
  record Once (h : List (BankEvent n)) : Type 0 where
    few : changes_of shape item h ≤ 1
    gone : 1 ≤ changes_of shape item h → (item < shape.regions + length (retired h)) ⊎ (has_exhausted h ≡ true)

  same-once : (event : BankEvent n) (h : List (BankEvent n)) → changes_of shape item (event ∷ h) ≡ changes_of shape item h → length (retired (event ∷ h)) ≡ length (retired h) → has_exhausted (event ∷ h) ≡ has_exhausted h
      → Once h → Once (event ∷ h)
  same-once event h count spares ex once = record { few = omega (arith, count, once.few); gone = λ le. by (once.gone (omega (arith, le, count))) }
    where
      by : (item < shape.regions + length (retired h)) ⊎ (has_exhausted h ≡ true) → (item < shape.regions + length (retired (event ∷ h))) ⊎ (has_exhausted (event ∷ h) ≡ true)
      by (inl lt) = inl (omega (arith, lt, spares))
      by (inr is) = inr (ex ∙ is)

  -- a change of a region is none of it
  region-else : (h : List (BankEvent n)) (line : ℕ) → line < shape.regions * shape.lines → one_if (is_item item (item_if shape.home (line / shape.lines))) + changes_of shape item h ≡ changes_of shape item h
  region-else h line within =
      let low : line / shape.lines < shape.regions = div_below line shape.lines shape.regions (omega (arith, lines)) within in
      omega (arith, other-item shape.home (line / shape.lines) item (λ e. omega (arith, e, low, beyond)))

  unspent : (h : List (BankEvent n)) → Once h → in_progress h ≡ true → (has_exhausted h ≡ true → in_progress h ≡ false) → shape.regions + length (retired h) ≤ item → changes_of shape item h ≡ 0
  unspent h once busy idle high =
      omega (arith, below_one (changes_of shape item h) (λ le. by (once.gone le)))
    where
      by : (item < shape.regions + length (retired h)) ⊎ (has_exhausted h ≡ true) → ⊥
      by (inl lt) = omega (arith, lt, high)
      by (inr ex) = absurd (cc (idle ex, busy))

  once-only : (most : ℕ) (h : List (BankEvent n)) → MayAll shape most h → Once h
  once-only most [] may = record { few = omega arith; gone = λ le. absurd (omega (arith, le)) }
  once-only most (Begin did.More ∷ h) may = same-once _ h (omega arith) refl refl (once-only most h may.1)
  once-only most (Begin (did.Stored row place) ∷ h) may =
      same-once _ h (region-else h (line_of_row row h) (row_line-within shape some lines most h row may.1)) refl refl (once-only most h may.1)
  once-only most (Begin (did.Moved step) ∷ h) may = same-once _ h (region-else h (first_or 0 (stores h)) (last-within shape some lines most h may.1)) refl refl (once-only most h may.1)
  once-only most (Begin (did.Retired slot line) ∷ h) may = absurd (begin-retires_none shape h (work_after shape h) slot line may.0.1)
  once-only most (Begin did.Exhausted ∷ h) may = absurd (begin-exhausts_none shape h (work_after shape h) may.0.1)
  once-only most (Iterate did.More ∷ h) may = same-once _ h (omega arith) refl refl (once-only most h may.1)
  once-only most (Iterate (did.Stored row place) ∷ h) may =
      same-once _ h (region-else h (line_of_row row h) (row_line-within shape some lines most h row may.1)) refl refl (once-only most h may.1)
  once-only most (Iterate (did.Moved step) ∷ h) may = same-once _ h (region-else h (first_or 0 (stores h)) (last-within shape some lines most h may.1)) refl refl (once-only most h may.1)
  once-only most (Iterate (did.Retired slot line) ∷ h) may =
      let once = once-only most h may.1 in
      let grown : length (retired h ++ slot ∷ []) ≡ length (retired h) + 1 = length-append (retired h) (slot ∷ []) in
      let here = some-item shape.home (shape.regions + length (retired h)) item in
      elim (cases_eq (shape.regions + length (retired h)) item) [
        | inl same ↦
            let none = unspent h once may.0.0 (exhausted-idle shape most h may.1) (omega (arith, same)) in
            record { few = omega (arith, here, none, at_most (shape.regions + length (retired h) == item)); gone = λ le. inl (omega (arith, same, grown)) }
        | inr isnt ↦
            let off = other-item shape.home (shape.regions + length (retired h)) item isnt in
            record { few = omega (arith, off, once.few); gone = λ le. more grown (once.gone (omega (arith, le, off))) }
      ]
    where
      at_most : (b : Bool) → one_if b ≤ 1
      at_most b = grind arith

      more : length (retired h ++ slot ∷ []) ≡ length (retired h) + 1 → (item < shape.regions + length (retired h)) ⊎ (has_exhausted h ≡ true)
          → (item < shape.regions + length (retired h ++ slot ∷ [])) ⊎ (has_exhausted h ≡ true)
      more grown (inl lt) = inl (omega (arith, lt, grown))
      more grown (inr ex) = inr ex
  once-only most (Iterate did.Exhausted ∷ h) may =
      let once = once-only most h may.1 in
      let here = some-item shape.home (shape.regions + shape.spares) item in
      elim (cases_eq (shape.regions + shape.spares) item) [
        | inl same ↦
            let none = unspent h once may.0.0 (exhausted-idle shape most h may.1) (omega (arith, same, may.0.1)) in
            record { few = omega (arith, here, none, at_most (shape.regions + shape.spares == item)); gone = λ le. inr refl }
        | inr isnt ↦
            let off = other-item shape.home (shape.regions + shape.spares) item isnt in
            record { few = omega (arith, off, once.few); gone = λ le. inr refl }
      ]
    where
      at_most : (b : Bool) → one_if b ≤ 1
      at_most b = grind arith
  once-only most (_ ∷ h) may = same-once _ h refl refl refl (once-only most h may.1)

module _ {n m : ℕ} (shape : BankShape) (pace : Pace) (e item : ℕ) (sized : IsSized shape pace) (xs : List (TimedEvent n m)) (l : Lawful shape pace e xs) where
  changes-few : changes_of shape item (core xs) ≤ most_changes shape (table_of shape xs) item
  changes-few = by (nat_lt item shape.regions) refl
    where
      stores_by_rows : ℕ
      stores_by_rows = region_stores is_stored shape item (table_of shape xs)

      count : stores_by_rows ≡ stored_in shape.lines (core xs) item
      count = region-all shape xs item ∙ stored-counted shape pace e (λ line. line / shape.lines == item) xs l ∙ region-stored shape.lines (core xs) item

      moves : moved_in shape.lines (core xs) item ≤ stores_by_rows / shape.psi
      moves =
          let k = keeps shape (most_steps e) (core xs) sized.psi (may_all shape pace e xs l) in
          let swap : moved_in shape.lines (core xs) item * shape.psi ≡ shape.psi * moved_in shape.lines (core xs) item = grind arith in
          le-div (moved_in shape.lines (core xs) item) stores_by_rows shape.psi sized.psi (omega (arith, count, k.few item, swap))

      by : (b : Bool) → nat_lt item shape.regions ≡ b → changes_of shape item (core xs) ≤ cond b (stores_by_rows + stores_by_rows / shape.psi) 1
      by true is = omega (arith, changes-region shape item (ltb-true item shape.regions is) (most_steps e) (core xs) (may_all shape pace e xs l), count, moves)
      by false is = (once-only shape sized.regions sized.lines item (ltb-false item shape.regions is) (most_steps e) (core xs) (may_all shape pace e xs l)).few

rests-kept : (item : ℕ) (change : Option ℕ) (keeping busy : Bool) (rounds : ℕ) → busy_by change keeping busy ≡ false → cond (is_item item change && keeping) rounds 0 ≡ 0
rests-kept item None keeping busy rounds is = refl
rests-kept item (Some other) keeping busy rounds is = ap (λ b. cond (other == item && b) rounds 0) is ∙ stops-cond (other == item) rounds

-- the line writes of an item's control line, by the rows
module _ {n m : ℕ} (shape : BankShape) (pace : Pace) (e item : ℕ) (sized : IsSized shape pace) (xs : List (TimedEvent n m)) (l : Lawful shape pace e xs) where
  writes-few : (w pulses rounds : ℕ) (k : IsKept w pulses rounds (changes_of shape item (core xs)) (cuts_in xs) (cancels_after xs)
      (is_item item (change_after shape xs)) (keeping_after xs) (halted_after xs) (is_cancelling pace.policy))
      → k.ended + k.broken ≤ tries pace.policy * most_kept shape (table_of shape xs) item
  writes-few w pulses rounds k =
      let cuts : count_by (λ (q : Row n). is_cut q) (table_of shape xs) ≡ cuts_in xs = cuts-counted shape xs xs in
      let few = changes-few shape pace e item sized xs l in
      by-policy pace.policy (k.ended + k.broken) k.ended k.broken (cuts_in xs) k.held (most_kept shape (table_of shape xs) item) refl
      (omega (arith, k.made, few, cuts)) k.plain k.cut (omega (arith, k.under, (cancels-kept shape pace e xs l).most))
      (λ holds. let stands : one_if (is_item item (change_after shape xs) && not (halted_after xs)) ≡ 1 = ap one_if (k.alone holds) in omega (arith, k.made, stands, few, cuts))

pub control_pulses_law : ControlPulsesLaw
control_pulses_law n m e shape pace xs array item sized l idle leaves exists =
    let k : Kept shape pace e item xs = kept shape pace e item sized xs l in
    let resting : busy_after shape xs ≡ false = idle.rests in
    let rested = rests-kept item (change_after shape xs) (keeping_after xs) (in_progress (core xs)) (rounds_after xs) resting in
    let works : k.ended + k.broken ≤ tries pace.policy * most_kept shape (table_of shape xs) item =
    writes-few shape pace e item sized xs l (most_steps e) (pulses_of xs (control_line shape item)) (rounds_after xs) k in
    let bound : most_steps e * (k.ended + k.broken) ≤ tries pace.policy * most_steps e * most_kept shape (table_of shape xs) item =
    bounded (most_steps e) (tries pace.policy) (k.ended + k.broken)
    (most_kept shape (table_of shape xs) item) works in
    let own : (array.line (shape.base + (slots_of shape + shape.spares + item))).pulses ≡ pulses_of xs (shape.base + (slots_of shape + shape.spares + item)) =
    leaves.pulses (slots_of shape + shape.spares + item) (omega (arith, exists)) in
    let turned : control_line shape item ≡ shape.base + (slots_of shape + shape.spares + item) = omega arith in
    let same : (array.line (control_line shape item)).pulses ≡ pulses_of xs (control_line shape item) =
    subst (λ line. (array.line line).pulses ≡ pulses_of xs line) (sym turned) own in
    omega (arith, same, k.few, rested, bound)

-- a bank that rests writes no control line
rests-written : (shape : BankShape) (at : ℕ) (change : Option ℕ) (keeping busy : Bool) (rounds : ℕ) → busy_by change keeping busy ≡ false
    → ◌≡◌ {A = ℕ} (cond (keeping && is_at (line_of_change shape change) at) rounds 0) 0
rests-written shape at None true busy rounds is = refl
rests-written shape at None false busy rounds is = refl
rests-written shape at (Some item) keeping busy rounds is = ap (λ b. cond (b && (control_line shape item == at)) rounds 0) is

pub control_ages_law : ControlAgesLaw
control_ages_law n m e shape pace xs array item sized l idle aged exists =
    let at : ℕ = control_line shape item in
    let k : Written shape pace e item xs = written shape pace e item sized xs l in
    let resting : busy_after shape xs ≡ false = idle.rests in
    let rested : rounds_on shape at xs ≡ 0 = rests-written shape at (change_after shape xs) (keeping_after xs) (in_progress (core xs)) (rounds_after xs) resting in
    let works : k.ended + k.broken ≤ tries pace.policy * most_kept shape (table_of shape xs) item =
    writes-few shape pace e item sized xs l 1 (written_on shape at xs) 0 k in
    let few : written_on shape at xs ≤ tries pace.policy * most_kept shape (table_of shape xs) item =
    omega (arith, k.few, works, none-cond (is_item item (change_after shape xs) && keeping_after xs)) in
    let ages = aged.age item exists in
    record { live = λ fine c. omega (arith, ages.live fine c, rested, few); stuck = λ c is. omega (arith, ages.stuck c is, rested, few) }
