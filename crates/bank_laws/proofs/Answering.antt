-- Which rows an event answers: they stand in the queue or wait.
use Rattle.std.proofs.Common.{arith, ◌≡◌, ℕ, ◌==◌, ◌&&◌, not, Bool, true, false, List, [], ◌∷◌, Option, Some, None, drop, length, refl, sym, ap, ◌∙◌, subst, cond, eqb}
use Rattle.std.proofs.lemmas.Bool.{eq-eqb, or_left, or_right}
use Rattle.masked_bytes.specs.{Entries.{has_row, RowsApart, newest_row, candidate, or_this, head_row}, declared.entry.Entry.Entry}
use Rattle.bank_shape.specs.{declared.BankShape.BankShape, declared.Work.TheVariants.Nothing, declared.answer.Served.Served}
use Rattle.bank_shape.specs.declared.answer.WriteAnswer.TheVariants as wrote
use Rattle.bank_shape.specs.declared.answer.Step.TheVariants as did
use Rattle.bank_model.specs.{After.{work_after, due_work}, Answers.{head_busy_after, accept_answer, write_answer, IsServed, IsDone}, Events.BankEvent}
use Rattle.bank_model.specs.History.{Awaited, queue, due_after, has_exhausted}
use Rattle.bank_laws.specs.Standing.{has_wait, WaitsApart}

-- the first entry, or the first read that waits, has this row
abbrev pub IsHead : {n : ℕ} → List (Entry n) → ℕ → Type 0
IsHead [] row = ⊥
IsHead (e ∷ es) row = row ≡ e.row

abbrev pub IsFirst : List Awaited → ℕ → Type 0
IsFirst [] row = ⊥
IsFirst (w ∷ ws) row = row ≡ w.row

module _ {n : ℕ} where
  pub head-there : (es : List (Entry n)) (row : ℕ) → IsHead es row → has_row es row ≡ true
  head-there [] row h = absurd h
  head-there (e ∷ es) row h = or_left (e.row == row) _ (eq-eqb e.row row (sym h))

  pub head-gone : (es : List (Entry n)) (row : ℕ) → RowsApart es → IsHead es row → has_row (drop 1 es) row ≡ false
  head-gone [] row a h = absurd h
  head-gone (e ∷ es) row a h = subst (λ r. has_row es r ≡ false) (sym h) a.0

  own-there : (e : Entry n) (es : List (Entry n)) (at : ℕ) (b : Bool) → cond b (Some e.row) None ≡ Some at
      → has_row (e ∷ es) at ≡ true
  own-there e es at true h = let same : e.row ≡ at = cc in or_left (e.row == at) _ (eq-eqb e.row at same)
  own-there e es at false h = absurd (cc)

  pub newest_row-there : (es : List (Entry n)) (line at : ℕ) → newest_row es line ≡ Some at → has_row es at ≡ true
  newest_row-there [] line at h = absurd (cc)
  newest_row-there (e ∷ es) line at h = by (newest_row es line) (λ is. newest_row-there es line at is) refl h
    where
      by : (r : Option ℕ) → (newest_row es line ≡ Some at → has_row es at ≡ true) → newest_row es line ≡ r → or_this r (cond (eqb e.line line) (Some e.row) None) ≡ Some at → has_row (e ∷ es) at ≡ true
      by (Some row) rest is h = or_right (e.row == at) _ (rest (is ∙ h))
      by None rest is h = own-there e es at (eqb e.line line) h

  pub candidate-there : (busy : Bool) (es : List (Entry n)) (line at : ℕ) → candidate busy es line ≡ Some at → has_row es at ≡ true
  candidate-there busy [] line at h = absurd (cc)
  candidate-there busy (e ∷ es) line at h = by (newest_row es line) refl h
    where
      by : (r : Option ℕ) → newest_row es line ≡ r → or_this r (cond (not busy && eqb e.line line) (Some e.row) None) ≡ Some at → has_row (e ∷ es) at ≡ true
      by (Some row) is h = or_right (e.row == at) _ (newest_row-there es line at (is ∙ h))
      by None is h = own-there e es at (not busy && eqb e.line line) h

pub first-there : (ws : List Awaited) (row : ℕ) → IsFirst ws row → has_wait ws row ≡ true
first-there [] row h = absurd h
first-there (w ∷ ws) row h = or_left (w.row == row) _ (eq-eqb w.row row (sym h))

pub first-gone : (ws : List Awaited) (row : ℕ) → WaitsApart ws → IsFirst ws row → has_wait (drop 1 ws) row ≡ false
first-gone [] row a h = absurd h
first-gone (w ∷ ws) row a h = subst (λ r. has_wait ws r ≡ false) (sym h) a.0

module _ {n : ℕ} (shape : BankShape) (h : List (BankEvent n)) where
  -- a write merges into an entry of the queue
  pub merged-there : (line old : ℕ) → wrote.Merged old ≡ write_answer shape h line → has_row (queue shape h) old ≡ true
  merged-there line old m = by (has_exhausted h) (candidate (head_busy_after shape h) (queue shape h) line) refl m
    where
      full : (b : Bool) → wrote.Merged old ≡ cond b wrote.Full wrote.Accepted → has_row (queue shape h) old ≡ true
      full b m = grind arith

      by : (b : Bool) (c : Option ℕ) → candidate (head_busy_after shape h) (queue shape h) line ≡ c
          → wrote.Merged old ≡ cond b wrote.Exhausted (accept_answer shape h c) → has_row (queue shape h) old ≡ true
      by true c is m = absurd (cc)
      by false None is m = full (eqb (length (queue shape h)) shape.writes) m
      by false (Some at) is m = let same : old ≡ at = cc in candidate-there (head_busy_after shape h) (queue shape h) line old (is ∙ ap Some (sym same))

  -- a line write that ends stores the head
  pub stored-head : (row place : ℕ) → IsDone shape h (work_after shape h) (did.Stored row place) → IsHead (queue shape h) row
  stored-head row place d = by (has_exhausted h) (due_after shape h) (queue shape h) refl d
    where
      by : (b : Bool) (due : Option ℕ) (q : List (Entry n)) → q ≡ queue shape h
          → IsDone shape h (cond b Nothing (due_work shape h due q)) (did.Stored row place) → IsHead (queue shape h) row
      by false None (e ∷ es) is d = subst (λ (q : List (Entry n)). row ≡ head_row q → IsHead q row) is (λ r. r) d.0
      by _ _ _ is d = absurd d

  -- a serve answers the first read that waits
  pub served-first : (ws : List Awaited) (answer : Served n) → IsServed shape h ws answer → IsFirst ws answer.row
  served-first ws answer s = grind arith
