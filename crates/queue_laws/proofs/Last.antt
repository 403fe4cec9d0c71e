-- The newest entry of a line in a history's queue is that of the line's last write.
use Rattle.std.proofs.Common.{arith, ◌≡◌, ℕ, ◌==◌, ◌||◌, Bool, true, false, List, [], ◌∷◌, ◌++◌, drop, Option, Some, None, refl, sym, ap, subst, ◌∙◌, cond, eqb, eqb-true}
use Rattle.masked_bytes.{specs.Entries.{or_this, newest_row, laid_on, merged, has_row, RowsApart}, specs.declared.entry.Entry.Entry, proofs.Queueing.candidate-newest}
use Rattle.bank_shape.specs.declared.BankShape.{BankShape}
use Rattle.bank_shape.specs.declared.answer.WriteAnswer.TheVariants as wrote
use Rattle.bank_shape.specs.declared.answer.Step.TheVariants as did
use Rattle.bank_model.specs.{Answers.{MayAll, head_busy_after}, Events.{BankEvent, Write, Read, Begin, Iterate, newest, RowsBelow}, History.{begun, queue, due_after}}
use Rattle.bank_laws.proofs.{Answering.newest_row-there, Lines.merged-candidate, Standing.stand_apart}
use Rattle.queue_laws.specs.EntryLaws.{last_write, LastWriteLaw}

module _ {n : ℕ} where
  -- a new entry is the newest of its line
  newest-push : (es : List (Entry n)) (x : Entry n) (line : ℕ)
      → newest_row (es ++ x ∷ []) line ≡ cond (x.line == line) (Some x.row) (newest_row es line)
  newest-push [] x line = refl
  newest-push (e ∷ es) x line = ap (λ r. or_this r (cond (e.line == line) (Some e.row) None)) (newest-push es x line) ∙ by (x.line == line)
    where
      by : (b : Bool)
          → or_this (cond b (Some x.row) (newest_row es line)) (cond (e.line == line) (Some e.row) None) ≡ cond b (Some x.row) (newest_row (e ∷ es) line)
      by b = grind arith

  newest-drop : (es : List (Entry n)) (line row : ℕ) → newest_row (drop 1 es) line ≡ Some row → newest_row es line ≡ Some row
  newest-drop [] line row is = is
  newest-drop (e ∷ es) line row is = ap (λ r. or_this r (cond (e.line == line) (Some e.row) None)) is

  newest-begun : (due : Option ℕ) (f : ℕ → List ℕ) (es : List (Entry n)) (line : ℕ) → newest_row (begun due f es) line ≡ newest_row es line
  newest-begun due f es line = grind arith

  module _ (old row : ℕ) (bytes : List ℕ) (given : List Bool) where
    -- no entry of the old row, none that changes
    merged-none : (es : List (Entry n)) → has_row es old ≡ false → merged old row bytes given es ≡ es
    merged-none [] none = refl
    merged-none (e ∷ es) none = by (eqb e.row old) none (λ rest. merged-none es rest)
      where
        by : (b : Bool) → (b || has_row es old) ≡ false → (has_row es old ≡ false → merged old row bytes given es ≡ es)
            → cond b (laid_on row bytes given e ∷ es) (e ∷ merged old row bytes given es) ≡ e ∷ es
        by true none go = absurd (cc)
        by false none go = ap (λ xs. e ∷ xs) (go none)

    -- a merged entry is the newest of its line where that of the old row was
    newest-merged : (es : List (Entry n)) (line : ℕ) → RowsApart es → newest_row es line ≡ Some old
        → newest_row (merged old row bytes given es) line ≡ Some row
    newest-merged [] line apart is = absurd (cc)
    newest-merged (e ∷ es) line apart is = by (newest_row es line) refl (λ t. newest-merged es line apart.1 t) is
      where
        own : (b c : Bool) → eqb e.line line ≡ b → eqb e.row old ≡ c → newest_row es line ≡ None → cond b (Some e.row) None ≡ Some old
            → newest_row (cond c (laid_on row bytes given e ∷ es) (e ∷ merged old row bytes given es)) line ≡ Some row
        own b c at same none is = grind arith

        there : (c : Bool) → eqb e.row old ≡ c → newest_row es line ≡ Some old → newest_row (merged old row bytes given es) line ≡ Some row
            → newest_row (cond c (laid_on row bytes given e ∷ es) (e ∷ merged old row bytes given es)) line ≡ Some row
        there true same found rest = absurd (cc (subst (λ r. has_row es r ≡ false) (eqb-true e.row old same) apart.0, newest_row-there es line old found))
        there false other found rest = ap (λ r. or_this r (cond (eqb e.line line) (Some e.row) None)) rest

        by : (r : Option ℕ) → newest_row es line ≡ r
            → (newest_row es line ≡ Some old → newest_row (merged old row bytes given es) line ≡ Some row)
            → or_this r (cond (eqb e.line line) (Some e.row) None) ≡ Some old
            → newest_row (merged old row bytes given (e ∷ es)) line ≡ Some row
        by (Some other) found go is = there (eqb e.row old) refl (found ∙ is) (go (found ∙ is))
        by None found go is = own (eqb e.line line) (eqb e.row old) refl refl found is

    -- the other lines have the same newest entry
    newest-aside : (es : List (Entry n)) (line at : ℕ) → RowsApart es → newest_row es line ≡ Some old → (line == at) ≡ false
        → newest_row (merged old row bytes given es) at ≡ newest_row es at
    newest-aside [] line at apart is off = refl
    newest-aside (e ∷ es) line at apart is off = by (newest_row es line) refl (λ t. newest-aside es line at apart.1 t off) is
      where
        own : (b c : Bool) → eqb e.line line ≡ b → eqb e.row old ≡ c → cond b (Some e.row) None ≡ Some old
            → newest_row (cond c (laid_on row bytes given e ∷ es) (e ∷ merged old row bytes given es)) at ≡ newest_row (e ∷ es) at
        own b c here same is = grind arith

        there : (c : Bool) → eqb e.row old ≡ c → newest_row es line ≡ Some old
            → newest_row (merged old row bytes given es) at ≡ newest_row es at
            → newest_row (cond c (laid_on row bytes given e ∷ es) (e ∷ merged old row bytes given es)) at ≡ newest_row (e ∷ es) at
        there true same found rest = absurd (cc (subst (λ r. has_row es r ≡ false) (eqb-true e.row old same) apart.0, newest_row-there es line old found))
        there false other found rest = ap (λ r. or_this r (cond (eqb e.line at) (Some e.row) None)) rest

        by : (r : Option ℕ) → newest_row es line ≡ r
            → (newest_row es line ≡ Some old → newest_row (merged old row bytes given es) at ≡ newest_row es at)
            → or_this r (cond (eqb e.line line) (Some e.row) None) ≡ Some old
            → newest_row (merged old row bytes given (e ∷ es)) at ≡ newest_row (e ∷ es) at
        by (Some other) found go is = there (eqb e.row old) refl (found ∙ is) (go (found ∙ is))
        by None found go is = own (eqb e.line line) (eqb e.row old) refl refl is

accepted-last : (row : ℕ) (b : Bool) (new : ℕ) (rest last : Option ℕ) → (rest ≡ Some row → last ≡ Some row)
    → cond b (Some new) rest ≡ Some row → cond b (Some new) last ≡ Some row
accepted-last row true new rest last go is = is
accepted-last row false new rest last go is = go is

merged-last : {n : ℕ} (line row : ℕ) (b : Bool) (at new : ℕ) (es after : List (Entry n)) (last : Option ℕ) → eqb at line ≡ b
    → newest_row after at ≡ Some new
    → ((at == line) ≡ false → newest_row after line ≡ newest_row es line) → (newest_row es line ≡ Some row → last ≡ Some row)
    → newest_row after line ≡ Some row → cond b (Some new) last ≡ Some row
merged-last line row true at new es after last here own aside go is = sym own ∙ ap (λ l. newest_row after l) (eqb-true at line here) ∙ is
merged-last line row false at new es after last here own aside go is = go (sym (aside here) ∙ is)

module _ {n : ℕ} (shape : BankShape) (line row : ℕ) where
  pub queue-last : (most : ℕ) (h : List (BankEvent n)) (bound : ℕ) → MayAll shape most h → RowsBelow h bound
      → newest_row (queue shape h) line ≡ Some row → last_write h line ≡ Some row
  queue-last most [] bound may below is = absurd (cc)
  queue-last most (Write new at bytes given wrote.Accepted ∷ h) bound may below is =
      accepted-last row (at == line) new (newest_row (queue shape h) line) (last_write h line) (queue-last most h new may.1 below.1)
      (sym (newest-push (queue shape h) (record { row = new; line = at; bytes = bytes; given = given }) line) ∙ is)
  queue-last most (Write new at bytes given (wrote.Merged old) ∷ h) bound may below is =
      let found : newest_row (queue shape h) at ≡ Some old =
      candidate-newest (head_busy_after shape h) (queue shape h) at old (merged-candidate shape h at old may.0.2) in
      let apart : RowsApart (queue shape h) = (stand_apart shape h new below.1).queued_apart in
      merged-last line row (at == line) at new (queue shape h) (merged old new bytes given (queue shape h)) (last_write h line) refl
      (newest-merged old new bytes given (queue shape h) at apart found)
      (λ off. newest-aside old new bytes given (queue shape h) at line apart found off) (queue-last most h new may.1 below.1) is
  queue-last most (Write new at bytes given _ ∷ h) bound may below is = queue-last most h new may.1 below.1 is
  queue-last most (Read new at answer ∷ h) bound may below is = queue-last most h new may.1 below.1 is
  queue-last most (Begin (did.Stored new place) ∷ h) bound may below is = queue-last most h bound may.1 below (newest-drop (queue shape h) line row is)
  queue-last most (Begin _ ∷ h) bound may below is = queue-last most h bound may.1 below (sym (newest-begun (due_after shape h) (newest h) (queue shape h) line) ∙ is)
  queue-last most (Iterate (did.Stored new place) ∷ h) bound may below is = queue-last most h bound may.1 below (newest-drop (queue shape h) line row is)
  queue-last most (_ ∷ h) bound may below is = queue-last most h bound may.1 below is

pub last_write_law : LastWriteLaw
last_write_law n most bound line row shape h may below is = queue-last shape line row most h bound may below is
