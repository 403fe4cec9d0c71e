-- Whether a store of the queue's head was begun: never where a gap move is due, and always where a line write is in progress or found no
-- spare and none is due.
use Rattle.std.proofs.Common.{◌≡◌, ℕ, ◌==◌, ◌||◌, ◌⊎◌, inl, inr, Bool, true, false, List, [], ◌∷◌, ◌++◌, drop, Option, Some, None, refl, sym, ◌∙◌, subst, cond, eqb-true}
use Rattle.std.{specs.Prelude.is_none, proofs.lemmas.Bool.{eq-eqb, or_cases}}
use Rattle.masked_bytes.{specs.Entries.{candidate, laid_on, merged}, specs.declared.entry.Entry.Entry, proofs.Truth.{and_first, and_second}}
use Rattle.bank_shape.specs.{Kinds.is_store, declared.BankShape.BankShape, declared.Work.TheVariants.Nothing}
use Rattle.bank_shape.specs.declared.answer.WriteAnswer.TheVariants as wrote
use Rattle.bank_shape.specs.declared.answer.Step.TheVariants as did
use Rattle.bank_model.specs.{After.{due_work, work_after}, Answers.{MayAll, head_busy_after, write_answer}, Events.{BankEvent, Write, Begin, Iterate, Cut, newest}}
use Rattle.bank_model.specs.History.{begun, queue, due_after, has_exhausted, in_progress}
use Rattle.bank_laws.{specs.Pairs.{has_line, ArePaired}, proofs.Pairs.{accepted-none, keeps_pairs, line-merged, no_candidate-head}}
use Rattle.queue_laws.specs.EntryLaws.{is_head_begun}
use Rattle.place_laws.proofs.{Slots.{begin-retires_none, begin-exhausts_none}, Working.{done-store, done-move}}

none-or : (due : Option ℕ) (b : Bool) → (b ≡ true → due ≡ None) → (is_none due || b) ≡ true → due ≡ None
none-or None b own is = refl
none-or (Some region) b own is = own is

none-is : (due : Option ℕ) (b : Bool) → due ≡ None → (is_none due || b) ≡ true
none-is None b is = refl
none-is (Some region) b is = absurd (cc)

module _ {n : ℕ} (shape : BankShape) where
  pub record KeepsBegun (h : List (BankEvent n)) : Type 0 where
    pub before : is_head_begun shape h ≡ true → due_after shape h ≡ None
    pub working : in_progress h ≡ true → due_after shape h ≡ None → is_head_begun shape h ≡ true
    pub exhausted : has_exhausted h ≡ true → due_after shape h ≡ None → is_head_begun shape h ≡ true

  pub keeps-begun : (most : ℕ) (h : List (BankEvent n)) → MayAll shape most h → KeepsBegun h
  keeps-begun most [] may = record { before = λ is. absurd (cc); working = λ is none. absurd (cc); exhausted = λ is none. absurd (cc) }
  keeps-begun most (Cut tearing ∷ h) may =
      let k = keeps-begun most h may.1 in record { before = k.before; working = λ is none. absurd (cc); exhausted = k.exhausted }
  keeps-begun most (Begin did.More ∷ h) may =
      let k = keeps-begun most h may.1 in
      record {
        before = none-or (due_after shape h) (is_head_begun shape h) k.before;
        working = λ is none. none-is (due_after shape h) (is_head_begun shape h) none;
        exhausted = λ is none. none-is (due_after shape h) (is_head_begun shape h) none;
      }
  keeps-begun most (Begin (did.Stored row place) ∷ h) may = record {
    before = λ is. absurd (cc);
    working = λ is none. absurd (cc);
    exhausted = λ is none. let fine = (done-store shape h row place may.0.1).fine in absurd (cc (fine, is));
  }
  keeps-begun most (Begin (did.Moved step) ∷ h) may =
      let k = keeps-begun most h may.1 in
      let m = done-move shape h step may.0.1 in
      record {
        before = λ is. let none : ◌≡◌ {A = Option ℕ} (Some m.region) None = sym m.due ∙ none-or (due_after shape h) (is_head_begun shape h) k.before is in absurd (cc);
        working = λ is none. absurd (cc);
        exhausted = λ is none. let fine = m.fine in absurd (cc (fine, is));
      }
  keeps-begun most (Begin (did.Retired slot line) ∷ h) may = absurd (begin-retires_none shape h (work_after shape h) slot line may.0.1)
  keeps-begun most (Begin did.Exhausted ∷ h) may = absurd (begin-exhausts_none shape h (work_after shape h) may.0.1)
  keeps-begun most (Iterate did.More ∷ h) may =
      let k = keeps-begun most h may.1 in record { before = k.before; working = λ is none. k.working may.0.0 none; exhausted = k.exhausted }
  keeps-begun most (Iterate (did.Stored row place) ∷ h) may = record {
    before = λ is. absurd (cc);
    working = λ is none. absurd (cc);
    exhausted = λ is none. let fine = (done-store shape h row place may.0.1).fine in absurd (cc (fine, is));
  }
  keeps-begun most (Iterate (did.Moved step) ∷ h) may =
      let k = keeps-begun most h may.1 in
      let m = done-move shape h step may.0.1 in
      record {
        before = λ is. let none : ◌≡◌ {A = Option ℕ} (Some m.region) None = sym m.due ∙ k.before is in absurd (cc);
        working = λ is none. absurd (cc);
        exhausted = λ is none. let fine = m.fine in absurd (cc (fine, is));
      }
  keeps-begun most (Iterate (did.Retired slot line) ∷ h) may =
      let k = keeps-begun most h may.1 in record { before = k.before; working = λ is none. absurd (cc); exhausted = k.exhausted }
  keeps-begun most (Iterate did.Exhausted ∷ h) may =
      let k = keeps-begun most h may.1 in record { before = k.before; working = λ is none. absurd (cc); exhausted = λ is none. k.working may.0.0 none }
  keeps-begun most (_ ∷ h) may = let k = keeps-begun most h may.1 in record { before = k.before; working = k.working; exhausted = k.exhausted }

-- Two writes of one line stand in the queue only where a store of the first was begun.

-- another entry of the head's line stands only where this is so
abbrev pub Again : {n : ℕ} → List (Entry n) → Bool → Type 0
Again [] begun = Unit {0}
Again (e ∷ es) begun = has_line es e.line ≡ true → begun ≡ true

module _ {n : ℕ} where
  line-pushed : (es : List (Entry n)) (x : Entry n) (line : ℕ) → has_line (es ++ x ∷ []) line ≡ true → (has_line es line ≡ true) ⊎ (x.line ≡ line)
  line-pushed [] x line is = elim (or_cases (x.line == line) false is) [ inl same ↦ inr (eqb-true x.line line same) | inr none ↦ absurd (cc) ]
  line-pushed (e ∷ es) x line is = by (e.line == line) (line-pushed es x line) is
    where
      by : (b : Bool) → (has_line (es ++ x ∷ []) line ≡ true → (has_line es line ≡ true) ⊎ (x.line ≡ line)) → (b || has_line (es ++ x ∷ []) line) ≡ true
          → ((b || has_line es line) ≡ true) ⊎ (x.line ≡ line)
      by true go is = inl refl
      by false go is = go is

  again-drop : (es : List (Entry n)) → ArePaired es → Again (drop 1 es) false
  again-drop [] paired = tt
  again-drop (e ∷ []) paired = tt
  again-drop (e ∷ f ∷ es) paired = λ is. let none = paired.0.0 in absurd (cc (none, is))

  again-merged : (old row : ℕ) (bytes : List ℕ) (given : List Bool) (es : List (Entry n)) (begun : Bool) → Again es begun → Again (merged old row bytes given es) begun
  again-merged old row bytes given [] begun again = tt
  again-merged old row bytes given (e ∷ es) begun again = by (e.row == old)
    where
      by : (b : Bool) → Again (cond b (laid_on row bytes given e ∷ es) (e ∷ merged old row bytes given es)) begun
      by true = again
      by false = λ is. again (sym (line-merged old row bytes given es e.line) ∙ is)

  again-begun : (due : Option ℕ) (f : ℕ → List ℕ) (es : List (Entry n)) (was : Bool) → Again es was → Again (begun due f es) (is_none due || was)
  again-begun (Some region) f es was again = again
  again-begun None f [] was again = tt
  again-begun None f (e ∷ es) was again = λ is. refl

module _ {n : ℕ} (shape : BankShape) where
  store-now : (h : List (BankEvent n)) (ex : Bool) (due : Option ℕ) (q : List (Entry n)) → is_store (cond ex Nothing (due_work shape h due q)) ≡ true → due ≡ None
  store-now h true due q is = absurd (cc)
  store-now h false None q is = refl
  store-now h false (Some region) q is = absurd (cc)

  again-pushed : (most : ℕ) (h : List (BankEvent n)) (x : Entry n) → MayAll shape most h → wrote.Accepted ≡ write_answer shape h x.line
      → (es : List (Entry n)) → queue shape h ≡ es → Again es (is_head_begun shape h) → Again (es ++ x ∷ []) (is_head_begun shape h)
  again-pushed most h x may accepts [] is again = λ some. absurd (cc)
  again-pushed most h x may accepts (e ∷ es) is again = λ some. by (line-pushed es x e.line some)
    where
      by : (has_line es e.line ≡ true) ⊎ (x.line ≡ e.line) → is_head_begun shape h ≡ true
      by (inl before) = again before
      by (inr same) =
          let none = subst (λ (q : List (Entry n)). candidate (head_busy_after shape h) q x.line ≡ None) is (accepted-none shape h x.line accepts) in
          let busy : head_busy_after shape h ≡ true = no_candidate-head (head_busy_after shape h) e es x.line none (eq-eqb x.line e.line same) in
          (keeps-begun shape most h may).working (and_first (in_progress h) _ busy)
          (store-now h (has_exhausted h) (due_after shape h) (queue shape h) (and_second (in_progress h) _ busy))

  pub begun-again : (most : ℕ) (h : List (BankEvent n)) → MayAll shape most h → Again (queue shape h) (is_head_begun shape h)
  begun-again most [] may = tt
  begun-again most (Write row line bytes given wrote.Accepted ∷ h) may =
      again-pushed most h (record { row = row; line = line; bytes = bytes; given = given }) may.1 may.0.2 (queue shape h) refl (begun-again most h may.1)
  begun-again most (Write row line bytes given (wrote.Merged old) ∷ h) may =
      again-merged old row bytes given (queue shape h) (is_head_begun shape h) (begun-again most h may.1)
  begun-again most (Begin (did.Stored row place) ∷ h) may = again-drop (queue shape h) (keeps_pairs shape most h may.1).paired
  begun-again most (Begin _ ∷ h) may = again-begun (due_after shape h) (newest h) (queue shape h) (is_head_begun shape h) (begun-again most h may.1)
  begun-again most (Iterate (did.Stored row place) ∷ h) may = again-drop (queue shape h) (keeps_pairs shape most h may.1).paired
  begun-again most (_ ∷ h) may = begun-again most h may.1
