-- While a bank isn't exhausted no worn row has come.
use Rattle.std.proofs.Common.{◌≡◌, ℕ, ◌≤◌, ◌&&◌, ◌||◌, Bool, true, false, List, [], ◌∷◌, ◌++◌, refl, sym, ◌∙◌, subst, arith, append_assoc}
use Rattle.std.{specs.List.list_any, specs.Prelude.{IsTrue, nat_lt}, proofs.lemmas.Bool.{le-ltb, and_right, or_from}, proofs.lemmas.List.Folds.list_any-append}
use Rattle.row_rules.specs.{Answers.is_worn, Wearing.worn_row, declared.Row.Row}
use Rattle.bank_shape.specs.{declared.BankShape.BankShape, declared.pace.Pace.Pace}
use Rattle.bank_model.specs.{Events.{Write, Cut}, History.has_exhausted, Lawful.Lawful, Timing.{Happens, Core, TimedEvent, core, last_tick}}
use Rattle.bank_laws.{specs.Outcomes.{outcome_of, ended, row_with, rows_from}, specs.Settling.AreOpen, specs.Ticks.ends_action, proofs.Entries.either, proofs.Later.last-later}
use Rattle.bank_laws.proofs.{Ticks.last_tick-rises, Wears.worn_rows-exhausted}

any-fewer : {X : Type 0} (p q : X → Bool) (xs : List X) → list_any p xs ≡ false → list_any (λ x. p x && q x) xs ≡ false
any-fewer p q [] none = refl
any-fewer p q (x ∷ xs) none = by (p x) (λ k. any-fewer p q xs k) none
  where
    by : (b : Bool) → (list_any p xs ≡ false → list_any (λ x. p x && q x) xs ≡ false) → (b || list_any p xs) ≡ false → ((b && q x) || list_any (λ x. p x && q x) xs) ≡ false
    by true rest none = absurd (cc)
    by false rest none = rest none

-- the worn rows below a tick
abbrev pub worn_below : {n : ℕ} → ℕ → List (Row n) → Bool
worn_below tick rows = list_any (λ r. worn_row r && nat_lt r.tick tick) rows

module _ {n m : ℕ} (shape : BankShape) (pace : Pace) (e : ℕ) where
  row_late : (all : List (TimedEvent n m)) (t tick : ℕ) (h : Happens n) (cancels : Bool) → nat_lt tick t ≡ false → worn_below t (row_with shape all h tick cancels) ≡ false
  row_late all t tick (Core (Write row line bytes given answer)) cancels late =
      or_from (is_worn (ended tick (outcome_of shape all row)) && nat_lt tick t) false (and_right (is_worn (ended tick (outcome_of shape all row))) _ late) refl
  row_late all t tick (Core (Cut tearing)) true late = refl
  row_late all t tick _ _ late = refl

  row_none : (all : List (TimedEvent n m)) (t tick : ℕ) (h : Happens n) (cancels : Bool) → IsTrue (ends_action h) → worn_below t (row_with shape all h tick cancels) ≡ false
  row_none all t tick h cancels is = grind arith

  unworn-on : (all pre : List (TimedEvent n m)) (x : TimedEvent n m) (xs : List (TimedEvent n m)) → 1 ≤ pace.read → 1 ≤ pace.iter → Lawful shape pace e (pre ++ x ∷ xs)
      → worn_below x.tick (rows_from shape all (x ∷ xs)) ≡ false → worn_below x.tick (rows_from shape all (pre ++ x ∷ xs)) ≡ false
  unworn-on all [] x xs r i l none = none
  unworn-on all (y ∷ pre) x xs r i l none =
      let above : x.tick ≤ last_tick (pre ++ x ∷ xs) = last-later shape pace e pre (x ∷ xs) r i l.1 in
      let rises : last_tick (pre ++ x ∷ xs) ≤ y.tick = last_tick-rises shape pace e (pre ++ x ∷ xs) y r i l in
      list_any-append (λ (q : Row n). worn_row q && nat_lt q.tick x.tick) (row_with shape all y.happens y.tick y.cancels) (rows_from shape all (pre ++ x ∷ xs))
      ∙ or_from _ _ (row_late all x.tick y.tick y.happens y.cancels (le-ltb y.tick x.tick (omega arith))) (unworn-on all pre x xs r i l.1 none)

  -- where a bank isn't exhausted as an action ends, every worn row comes at that tick or later
  pub unworn : (all pre : List (TimedEvent n m)) (x : TimedEvent n m) (xs : List (TimedEvent n m)) → 1 ≤ pace.read → 1 ≤ pace.iter → Lawful shape pace e all → AreOpen shape all → all ≡ pre ++ x ∷ xs
      → has_exhausted (core xs) ≡ false → IsTrue (ends_action x.happens) → worn_below x.tick (rows_from shape all all) ≡ false
  unworn all pre x xs r i l o same fresh ends =
      let before : list_any worn_row (rows_from shape all xs) ≡ false =
      either (list_any worn_row (rows_from shape all xs))
      (λ w. absurd (cc (worn_rows-exhausted shape pace e all (pre ++ x ∷ []) xs l o (same ∙ sym (append_assoc pre (x ∷ []) xs)) w, fresh))) (λ isnt. isnt) in
      let here : worn_below x.tick (rows_from shape all (x ∷ xs)) ≡ false =
      list_any-append (λ (q : Row n). worn_row q && nat_lt q.tick x.tick) (row_with shape all x.happens x.tick x.cancels) (rows_from shape all xs)
      ∙ or_from _ _ (row_none all x.tick x.tick x.happens x.cancels ends) (any-fewer worn_row (λ (q : Row n). nat_lt q.tick x.tick) (rows_from shape all xs) before) in
      subst (λ (zs : List (TimedEvent n m)). worn_below x.tick (rows_from shape all zs) ≡ false) (sym same)
      (unworn-on all pre x xs r i (subst (λ (zs : List (TimedEvent n m)). Lawful shape pace e zs) same l) here)
