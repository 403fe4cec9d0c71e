-- Each entry of a history's queue has the row and the line of one of its writes.
use Rattle.std.proofs.Common.{◌≡◌, ℕ, ◌<◌, ◌≤◌, ◌==◌, ◌&&◌, not, cond, if◌then◌else◌, Bool, true, false, List, [], ◌∷◌, ◌++◌, length, drop, Option, Some, None, refl, sym, ap, ◌∙◌, arith, eqb-true, eq-eqb}
use Rattle.std.proofs.lemmas.Bool.{ne_eqb}
use Rattle.masked_bytes.specs.{Entries.{or_this, newest_row, candidate, laid_on, merged, head_row, head_line, has_row, RowsApart}, declared.entry.Entry.Entry}
use Rattle.masked_bytes.proofs.Rows.{apart-push, apart-drop, apart-merged}
use Rattle.bank_shape.specs.declared.BankShape.{BankShape}
use Rattle.bank_shape.specs.declared.answer.WriteAnswer.TheVariants as wrote
use Rattle.bank_shape.specs.declared.answer.Step.TheVariants as did
use Rattle.bank_model.specs.{Answers.{MayAll, head_busy_after}, Events.{BankEvent, Write, Read, Begin, Iterate, line_of_row, newest, RowsBelow}}
use Rattle.bank_model.{specs.History.{queue, begun, due_after, has_exhausted}, proofs.Begun.apart-begun}
use Rattle.bank_invariant.proofs.Taking.{answer_merged}

-- each entry's row is below a bound, and names its line
abbrev pub AreNamed : {n : ℕ} → (ℕ → ℕ) → ℕ → List (Entry n) → Type 0
AreNamed line_of bound [] = Unit {0}
AreNamed line_of bound (e ∷ es) = (e.row < bound) × (line_of e.row ≡ e.line) × AreNamed line_of bound es

-- the lines of rows with one row more
abbrev pub named_too : ℕ → ℕ → (ℕ → ℕ) → ℕ → ℕ
named_too row line line_of at = if row == at then line else line_of at

named_new : (row line : ℕ) (line_of : ℕ → ℕ) → named_too row line line_of row ≡ line
named_new row line line_of = ap (λ b. cond b line (line_of row)) (eq-eqb row row refl)

named_old : (row line at : ℕ) (line_of : ℕ → ℕ) → at < row → named_too row line line_of at ≡ line_of at
named_old row line at line_of h = ap (λ b. cond b line (line_of at)) (ne_eqb row at (λ same. omega (arith, same, h)))

module _ {n : ℕ} where
  AreNamed-more : (line_of : ℕ → ℕ) (low high : ℕ) (es : List (Entry n)) → low ≤ high → AreNamed line_of low es → AreNamed line_of high es
  AreNamed-more line_of low high [] more named = tt
  AreNamed-more line_of low high (e ∷ es) more named =
      let first = named.0 in
      (omega arith, named.1, AreNamed-more line_of low high es more named.2)

  AreNamed-too : (line_of : ℕ → ℕ) (row line bound : ℕ) (es : List (Entry n)) → row < bound → AreNamed line_of row es
      → AreNamed (named_too row line line_of) bound es
  AreNamed-too line_of row line bound [] below named = tt
  AreNamed-too line_of row line bound (e ∷ es) below named =
      let first = named.0 in
      (omega arith, named_old row line e.row line_of named.0 ∙ named.1, AreNamed-too line_of row line bound es below named.2)

  AreNamed-append : (line_of : ℕ → ℕ) (bound : ℕ) (es : List (Entry n)) (e : Entry n) → AreNamed line_of bound es → e.row < bound → line_of e.row ≡ e.line
      → AreNamed line_of bound (es ++ e ∷ [])
  AreNamed-append line_of bound [] e named below is = (below, is, tt)
  AreNamed-append line_of bound (f ∷ es) e named below is = (named.0, named.1, AreNamed-append line_of bound es e named.2 below is)

  AreNamed-drop : (line_of : ℕ → ℕ) (bound : ℕ) (es : List (Entry n)) → AreNamed line_of bound es → AreNamed line_of bound (drop 1 es)
  AreNamed-drop line_of bound [] named = tt
  AreNamed-drop line_of bound (e ∷ es) named = named.2

  AreNamed-begun : (line_of : ℕ → ℕ) (bound : ℕ) (due : Option ℕ) (newest_of : ℕ → List ℕ) (es : List (Entry n)) → AreNamed line_of bound es
      → AreNamed line_of bound (begun due newest_of es)
  AreNamed-begun line_of bound due newest_of es named = grind arith

  -- a merged entry gets the new row, and keeps its line
  AreNamed-merged : (line_of : ℕ → ℕ) (old row line bound : ℕ) (bytes : List ℕ) (given : List Bool) (es : List (Entry n)) → row < bound → line_of old ≡ line
      → AreNamed line_of row es → AreNamed (named_too row line line_of) bound (merged old row bytes given es)
  AreNamed-merged line_of old row line bound bytes given [] below is named = tt
  AreNamed-merged line_of old row line bound bytes given (e ∷ es) below is named =
      by (e.row == old) (λ t. sym is ∙ ap line_of (sym (eqb-true e.row old t)) ∙ named.1) (AreNamed-merged line_of old row line bound bytes given es below is named.2)
    where
      first_below : e.row < bound
      first_below = let first = named.0 in omega arith

      by : (b : Bool) → (b ≡ true → line ≡ e.line) → AreNamed (named_too row line line_of) bound (merged old row bytes given es)
          → AreNamed (named_too row line line_of) bound (if b then laid_on row bytes given e ∷ es else e ∷ merged old row bytes given es)
      by true same rest = (below, named_new row line line_of ∙ same refl, AreNamed-too line_of row line bound es below named.2)
      by false same rest = (first_below, named_old row line e.row line_of named.0 ∙ named.1, rest)

  -- the newest entry of a line has a row that names the line
  newest_row-named : (line_of : ℕ → ℕ) (bound line old : ℕ) (es : List (Entry n)) → AreNamed line_of bound es → newest_row es line ≡ Some old → line_of old ≡ line
  newest_row-named line_of bound line old [] named found = cc
  newest_row-named line_of bound line old (e ∷ es) named found =
      by (newest_row es line) (e.line == line) (newest_row-named line_of bound line old es named.2) (eqb-true e.line line) found
    where
      by : (p : Option ℕ) (b : Bool) → (p ≡ Some old → line_of old ≡ line) → (b ≡ true → e.line ≡ line) → or_this p (if b then Some e.row else None) ≡ Some old → line_of old ≡ line
      by (Some x) b rest own found = rest found
      by None true rest own found = let at : e.row ≡ old = cc in ap line_of (sym at) ∙ named.1 ∙ own refl
      by None false rest own found = cc

  candidate-named : (line_of : ℕ → ℕ) (bound line old : ℕ) (busy : Bool) (es : List (Entry n)) → AreNamed line_of bound es → candidate busy es line ≡ Some old → line_of old ≡ line
  candidate-named line_of bound line old busy [] named found = cc
  candidate-named line_of bound line old busy (e ∷ es) named found =
      by busy (newest_row es line) (e.line == line) (newest_row-named line_of bound line old es named.2) (eqb-true e.line line) found
    where
      by : (busy : Bool) (p : Option ℕ) (b : Bool) → (p ≡ Some old → line_of old ≡ line) → (b ≡ true → e.line ≡ line)
          → or_this p (if not busy && b then Some e.row else None) ≡ Some old → line_of old ≡ line
      by busy (Some x) b rest own found = rest found
      by true None b rest own found = cc
      by false None true rest own found = let at : e.row ≡ old = cc in ap line_of (sym at) ∙ named.1 ∙ own refl
      by false None false rest own found = cc

  -- each entry of the queue has the row and the line of a write
  pub queue-named : (shape : BankShape) (most bound : ℕ) (h : List (BankEvent n)) → MayAll shape most h → RowsBelow h bound
      → AreNamed (λ row. line_of_row row h) bound (queue shape h)
  queue-named shape most bound [] may below = tt
  queue-named shape most bound (Write row line bytes given wrote.Accepted ∷ h) may below =
      AreNamed-append (λ at. line_of_row at (Write row line bytes given wrote.Accepted ∷ h)) bound (queue shape h) _
      (AreNamed-too (λ at. line_of_row at h) row line bound (queue shape h) below.0 (queue-named shape most row h may.1 below.1))
      below.0 (named_new row line (λ at. line_of_row at h))
  queue-named shape most bound (Write row line bytes given (wrote.Merged old) ∷ h) may below =
      let rest = queue-named shape most row h may.1 below.1 in
      let told = answer_merged shape h (has_exhausted h) (candidate (head_busy_after shape h) (queue shape h) line) old may.0.2 in
      AreNamed-merged (λ at. line_of_row at h) old row line bound bytes given (queue shape h) below.0
      (candidate-named (λ at. line_of_row at h) row line old (head_busy_after shape h) (queue shape h) rest told.1) rest
  queue-named shape most bound (Write row line bytes given _ ∷ h) may below = AreNamed-too (λ at. line_of_row at h) row line bound (queue shape h) below.0 (queue-named shape most row h may.1 below.1)
  queue-named shape most bound (Read row line answer ∷ h) may below =
      let first = below.0 in
      AreNamed-more (λ at. line_of_row at h) row bound (queue shape h) (omega arith) (queue-named shape most row h may.1 below.1)
  queue-named shape most bound (Begin (did.Stored row place) ∷ h) may below =
      AreNamed-drop (λ at. line_of_row at h) bound (queue shape h) (queue-named shape most bound h may.1 below)
  queue-named shape most bound (Begin _ ∷ h) may below = AreNamed-begun (λ at. line_of_row at h) bound (due_after shape h) (newest h) (queue shape h) (queue-named shape most bound h may.1 below)
  queue-named shape most bound (Iterate (did.Stored row place) ∷ h) may below =
      AreNamed-drop (λ at. line_of_row at h) bound (queue shape h) (queue-named shape most bound h may.1 below)
  queue-named shape most bound (_ ∷ h) may below = queue-named shape most bound h may.1 below

  -- so has the head
  pub head-named : (line_of : ℕ → ℕ) (bound : ℕ) (es : List (Entry n)) → 0 < length es → AreNamed line_of bound es → line_of (head_row es) ≡ head_line es
  head-named line_of bound es some named = grind arith

  -- Rows apart

  AreNamed-no_row : (line_of : ℕ → ℕ) (bound : ℕ) (es : List (Entry n)) → AreNamed line_of bound es → has_row es bound ≡ false
  AreNamed-no_row line_of bound [] named = refl
  AreNamed-no_row line_of bound (e ∷ es) named =
      let first = named.0 in
      rw (ne_eqb e.row bound (λ same. omega (arith, same, first))) (AreNamed-no_row line_of bound es named.2)

  -- no two entries of the queue have one row, since the rows of the writes rise
  pub rows-apart : (shape : BankShape) (most bound : ℕ) (h : List (BankEvent n)) → MayAll shape most h → RowsBelow h bound → RowsApart (queue shape h)
  rows-apart shape most bound [] may below = tt
  rows-apart shape most bound (Write row line bytes given wrote.Accepted ∷ h) may below =
      apart-push (queue shape h) _ (rows-apart shape most row h may.1 below.1)
      (AreNamed-no_row (λ at. line_of_row at h) row (queue shape h) (queue-named shape most row h may.1 below.1))
  rows-apart shape most bound (Write row line bytes given (wrote.Merged old) ∷ h) may below =
      apart-merged old row bytes given (queue shape h) (rows-apart shape most row h may.1 below.1)
      (AreNamed-no_row (λ at. line_of_row at h) row (queue shape h) (queue-named shape most row h may.1 below.1))
  rows-apart shape most bound (Write row line bytes given _ ∷ h) may below = rows-apart shape most row h may.1 below.1
  rows-apart shape most bound (Read row line answer ∷ h) may below = rows-apart shape most row h may.1 below.1
  rows-apart shape most bound (Begin (did.Stored row place) ∷ h) may below = apart-drop (queue shape h) (rows-apart shape most bound h may.1 below)
  rows-apart shape most bound (Begin _ ∷ h) may below = apart-begun (due_after shape h) (newest h) (queue shape h) (rows-apart shape most bound h may.1 below)
  rows-apart shape most bound (Iterate (did.Stored row place) ∷ h) may below = apart-drop (queue shape h) (rows-apart shape most bound h may.1 below)
  rows-apart shape most bound (_ ∷ h) may below = rows-apart shape most bound h may.1 below
