-- A head that isn't complete is the only entry of its line: entries of one line merge, except into a head that is being stored, and
-- such a head is complete.
use Rattle.std.proofs.Common.{arith, ◌≡◌, ℕ, ◌==◌, ◌&&◌, not, if◌then◌else◌, inl, inr, ◌⊎◌, Bool, true, false, List, [], ◌∷◌, ◌++◌, drop, Option, Some, None, refl, ap, ◌∙◌}
use Rattle.std.specs.Prelude.{IsTrue}
use Rattle.masked_bytes.specs.{Entries.{or_this, newest_row, candidate, laid_on, merged, no_layer, layer_of}, Masked.{joined, gives_all, all_given, IsMasked}}
use Rattle.masked_bytes.{specs.declared.entry.Entry.Entry, proofs.Layering.{joined-all_given, gives_all-all_given}, proofs.Truth.{and_first, and_second, differ_sym}}
use Rattle.bank_shape.specs.{Kinds.is_store, declared.BankShape.BankShape, declared.Work.TheVariants.Nothing}
use Rattle.bank_shape.specs.declared.answer.WriteAnswer.TheVariants as wrote
use Rattle.bank_shape.specs.declared.answer.Step.TheVariants as did
use Rattle.bank_model.specs.{After.{due_work, work_after, is_ready}, Answers.{MayAll, head_busy_after}, Events.{BankEvent, Write, Read, Serve, Begin, Iterate, newest}}
use Rattle.bank_model.specs.History.{Awaited, queue, waits, begun, due_after, has_exhausted, in_progress}
use Rattle.bank_invariant.proofs.Taking.{answer_accepted}

-- a head that doesn't give each byte of its line is the only entry of its line
abbrev pub IsHeadAlone : {n : ℕ} → List (Entry n) → Type 0
IsHeadAlone [] = Unit {0}
IsHeadAlone {n} (head ∷ rest) = IsTrue (gives_all head.given) ⊎ (layer_of rest head.line ≡ no_layer n)

-- neither of two is there
neither_first : (p q : Option ℕ) → or_this p q ≡ None → p ≡ None
neither_first p q h = grind arith

neither_other : (p q : Option ℕ) → or_this p q ≡ None → q ≡ None
neither_other p q h = grind arith

neither : (p q : Option ℕ) → p ≡ None → q ≡ None → or_this p q ≡ None
neither p q h k = grind arith

not_there : (b : Bool) (row : ℕ) → (if b then Some row else None) ≡ None → b ≡ false
not_there b row h = grind arith

absent : (b : Bool) (row : ℕ) → b ≡ false → (if b then Some row else None) ≡ None
absent b row h = grind arith

module _ {n : ℕ} where
  -- no two of these entries are of one line
  abbrev LinesApart : List (Entry n) → Type 0
  LinesApart [] = Unit {0}
  LinesApart (e ∷ es) = (newest_row es e.line ≡ None) × LinesApart es

  -- nor any of a queue, but where its head is complete
  abbrev IsApart : List (Entry n) → Type 0
  IsApart [] = Unit {0}
  IsApart (e ∷ es) = ((e.given ≡ all_given n) ⊎ (newest_row es e.line ≡ None)) × LinesApart es

  -- the head is there and complete
  abbrev IsComplete : List (Entry n) → Type 0
  IsComplete [] = ⊥
  IsComplete (e ∷ es) = e.given ≡ all_given n

  -- One entry more

  row-append : (es : List (Entry n)) (x : Entry n) (line : ℕ) → newest_row es line ≡ None → (x.line == line) ≡ false → newest_row (es ++ x ∷ []) line ≡ None
  row-append [] x line none off = absent (x.line == line) x.row off
  row-append (e ∷ es) x line none off =
      neither (newest_row (es ++ x ∷ []) line) (if e.line == line then Some e.row else None)
      (row-append es x line (neither_first (newest_row es line) _ none) off) (neither_other (newest_row es line) _ none)

  LinesApart-append : (es : List (Entry n)) (x : Entry n) → LinesApart es → newest_row es x.line ≡ None → LinesApart (es ++ x ∷ [])
  LinesApart-append [] x apart none = (refl, tt)
  LinesApart-append (e ∷ es) x apart none = (
    row-append es x e.line apart.0 (differ_sym e.line x.line (not_there (e.line == x.line) e.row (neither_other (newest_row es x.line) _ none))),
    LinesApart-append es x apart.1 (neither_first (newest_row es x.line) _ none),
  )

  IsApart-append : (busy : Bool) (es : List (Entry n)) (x : Entry n) → IsApart es → candidate busy es x.line ≡ None → (busy ≡ true → IsComplete es) → IsApart (es ++ x ∷ [])
  IsApart-append busy [] x apart none whole = (inr refl, tt)
  IsApart-append busy (e ∷ es) x apart none whole =
      (by busy none whole apart.0, LinesApart-append es x apart.1 (neither_first (newest_row es x.line) _ none))
    where
      by : (busy : Bool) → or_this (newest_row es x.line) (if not busy && e.line == x.line then Some e.row else None) ≡ None → (busy ≡ true → e.given ≡ all_given n)
          → (e.given ≡ all_given n) ⊎ (newest_row es e.line ≡ None) → (e.given ≡ all_given n) ⊎ (newest_row (es ++ x ∷ []) e.line ≡ None)
      by true none whole apart = inl (whole refl)
      by false none whole (inl all) = inl all
      by false none whole (inr alone) =
          inr (row-append es x e.line alone (differ_sym e.line x.line (not_there (e.line == x.line) e.row (neither_other (newest_row es x.line) _ none))))

  IsComplete-append : (es : List (Entry n)) (x : Entry n) → IsComplete es → IsComplete (es ++ x ∷ [])
  IsComplete-append es x whole = grind arith

  -- A merge

  module _ (old row : ℕ) (bytes : List ℕ) (given : List Bool) where
    row-merged : (es : List (Entry n)) (line : ℕ) → newest_row es line ≡ None → newest_row (merged old row bytes given es) line ≡ None
    row-merged [] line none = refl
    row-merged (e ∷ es) line none =
        by (e.row == old) (neither_first (newest_row es line) _ none) (row-merged es line (neither_first (newest_row es line) _ none))
        (not_there (e.line == line) e.row (neither_other (newest_row es line) _ none))
      where
        by : (b : Bool) → newest_row es line ≡ None → newest_row (merged old row bytes given es) line ≡ None → (e.line == line) ≡ false
            → newest_row (if b then laid_on row bytes given e ∷ es else e ∷ merged old row bytes given es) line ≡ None
        by true rest after off = neither (newest_row es line) _ rest (absent (e.line == line) row off)
        by false rest after off = neither (newest_row (merged old row bytes given es) line) _ after (absent (e.line == line) e.row off)

    LinesApart-merged : (es : List (Entry n)) → LinesApart es → LinesApart (merged old row bytes given es)
    LinesApart-merged [] apart = tt
    LinesApart-merged (e ∷ es) apart = by (e.row == old) (row-merged es e.line apart.0) (LinesApart-merged es apart.1)
      where
        by : (b : Bool) → newest_row (merged old row bytes given es) e.line ≡ None → LinesApart (merged old row bytes given es)
            → LinesApart (if b then laid_on row bytes given e ∷ es else e ∷ merged old row bytes given es)
        by true none rest = apart
        by false none rest = (none, rest)

    joined_whole : (e : Entry n) → IsMasked n bytes given → e.given ≡ all_given n → joined given e.given ≡ all_given n
    joined_whole e masked all = ap (λ other. joined given other) all ∙ joined-all_given n given masked.given_len

    IsApart-merged : (es : List (Entry n)) → IsMasked n bytes given → IsApart es → IsApart (merged old row bytes given es)
    IsApart-merged [] masked apart = tt
    IsApart-merged (e ∷ es) masked apart = by (e.row == old) apart.0 (row-merged es e.line) (LinesApart-merged es apart.1)
      where
        by : (b : Bool) → (e.given ≡ all_given n) ⊎ (newest_row es e.line ≡ None) → (newest_row es e.line ≡ None → newest_row (merged old row bytes given es) e.line ≡ None)
            → LinesApart (merged old row bytes given es) → IsApart (if b then laid_on row bytes given e ∷ es else e ∷ merged old row bytes given es)
        by true (inl all) none rest = (inl (joined_whole e masked all), apart.1)
        by true (inr alone) none rest = (inr alone, apart.1)
        by false (inl all) none rest = (inl all, rest)
        by false (inr alone) none rest = (inr (none alone), rest)

    IsComplete-merged : (es : List (Entry n)) → IsMasked n bytes given → IsComplete es → IsComplete (merged old row bytes given es)
    IsComplete-merged [] masked whole = absurd whole
    IsComplete-merged (e ∷ es) masked whole = by (e.row == old)
      where
        by : (b : Bool) → IsComplete (if b then laid_on row bytes given e ∷ es else e ∷ merged old row bytes given es)
        by true = joined_whole e masked whole
        by false = whole

  -- Begins and stores

  IsApart-begun : (due : Option ℕ) (newest_of : ℕ → List ℕ) (es : List (Entry n)) → IsApart es → IsApart (begun due newest_of es)
  IsApart-begun (Some region) newest_of es apart = apart
  IsApart-begun None newest_of [] apart = tt
  IsApart-begun None newest_of (e ∷ es) apart = (inl refl, apart.1)

  IsApart-tail : (es : List (Entry n)) → LinesApart es → IsApart es
  IsApart-tail [] apart = tt
  IsApart-tail (e ∷ es) apart = (inr apart.0, apart.1)

  IsApart-drop : (es : List (Entry n)) → IsApart es → IsApart (drop 1 es)
  IsApart-drop [] apart = tt
  IsApart-drop (e ∷ es) apart = IsApart-tail es apart.1

  module _ (shape : BankShape) (most : ℕ) where
    -- a store that begins completes the head
    begins_complete : (h : List (BankEvent n)) (ws : List Awaited) (mark : Bool) (due : Option ℕ) (newest_of : ℕ → List ℕ) (es : List (Entry n))
        → is_ready ws (if mark then Nothing else due_work shape h due es) ≡ true → due ≡ None → IsComplete (begun due newest_of es)
    begins_complete h ws mark due newest_of es ready none = grind arith

    -- while a store is in progress its head is complete
    complete_in : (h : List (BankEvent n)) → MayAll shape most h → in_progress h ≡ true → due_after shape h ≡ None → IsComplete (queue shape h)
    complete_in (Write row line bytes given wrote.Accepted ∷ h) may busy none = IsComplete-append (queue shape h) _ (complete_in h may.1 busy none)
    complete_in (Write row line bytes given (wrote.Merged old) ∷ h) may busy none =
        IsComplete-merged old row bytes given (queue shape h) may.0.1 (complete_in h may.1 busy none)
    complete_in (Write row line bytes given _ ∷ h) may busy none = complete_in h may.1 busy none
    complete_in (Read row line answer ∷ h) may busy none = complete_in h may.1 busy none
    complete_in (Serve answer ∷ h) may busy none = complete_in h may.1 busy none
    complete_in (Begin did.More ∷ h) may busy none =
        begins_complete h (waits shape h) (has_exhausted h) (due_after shape h) (newest h) (queue shape h)
        (and_second (not (in_progress h)) (is_ready (waits shape h) (work_after shape h)) may.0.0) none
    complete_in (Iterate did.More ∷ h) may busy none = complete_in h may.1 may.0.0 none
    complete_in _ may busy none = cc

    store_due : (h : List (BankEvent n)) (mark : Bool) (due : Option ℕ) (es : List (Entry n)) → is_store (if mark then Nothing else due_work shape h due es) ≡ true → due ≡ None
    store_due h mark due es store = grind arith

    complete_busy : (h : List (BankEvent n)) → MayAll shape most h → head_busy_after shape h ≡ true → IsComplete (queue shape h)
    complete_busy h may busy =
        complete_in h may (and_first (in_progress h) (is_store (work_after shape h)) busy)
        (store_due h (has_exhausted h) (due_after shape h) (queue shape h) (and_second (in_progress h) (is_store (work_after shape h)) busy))

    queue-apart : (h : List (BankEvent n)) → MayAll shape most h → IsApart (queue shape h)
    queue-apart [] may = tt
    queue-apart (Write row line bytes given wrote.Accepted ∷ h) may =
        let told = answer_accepted shape h (has_exhausted h) (candidate (head_busy_after shape h) (queue shape h) line) may.0.2 in
        IsApart-append (head_busy_after shape h) (queue shape h) _ (queue-apart h may.1) told.1 (complete_busy h may.1)
    queue-apart (Write row line bytes given (wrote.Merged old) ∷ h) may =
        IsApart-merged old row bytes given (queue shape h) may.0.1 (queue-apart h may.1)
    queue-apart (Begin (did.Stored row place) ∷ h) may = IsApart-drop (queue shape h) (queue-apart h may.1)
    queue-apart (Begin _ ∷ h) may = IsApart-begun (due_after shape h) (newest h) (queue shape h) (queue-apart h may.1)
    queue-apart (Iterate (did.Stored row place) ∷ h) may = IsApart-drop (queue shape h) (queue-apart h may.1)
    queue-apart (_ ∷ h) may = queue-apart h may.1

  no_row-no_layer : (es : List (Entry n)) (line : ℕ) → newest_row es line ≡ None → layer_of es line ≡ no_layer n
  no_row-no_layer [] line none = refl
  no_row-no_layer (e ∷ es) line none =
      rw (not_there (e.line == line) e.row (neither_other (newest_row es line) _ none)) (no_row-no_layer es line (neither_first (newest_row es line) _ none))

  alone_by : (es : List (Entry n)) → IsApart es → IsHeadAlone es
  alone_by [] apart = tt
  alone_by (e ∷ es) apart = by apart.0
    where
      by : (e.given ≡ all_given n) ⊎ (newest_row es e.line ≡ None) → IsTrue (gives_all e.given) ⊎ (layer_of es e.line ≡ no_layer n)
      by (inl all) = inl (ap (λ given. gives_all given) all ∙ gives_all-all_given n)
      by (inr none) = inr (no_row-no_layer es e.line none)

  -- a head that isn't complete is alone
  pub head-alone : (shape : BankShape) (most : ℕ) (h : List (BankEvent n)) → MayAll shape most h → IsHeadAlone (queue shape h)
  head-alone shape most h may = alone_by (queue shape h) (queue-apart shape most h may)
