-- The rows that stand are below the next row, and apart.
use Rattle.std.proofs.Common.{◌≡◌, ℕ, ◌<◌, ◌≤◌, Bool, true, false, List, [], ◌∷◌, ◌++◌, Option, drop, refl, sym, ◌∙◌, subst, arith, eqb, eqb-true}
use Rattle.std.proofs.lemmas.Bool.{ne_eqb}
use Rattle.masked_bytes.specs.{Entries.{has_row, merged}, declared.entry.Entry.Entry}
use Rattle.masked_bytes.proofs.Rows.{lacks-push, lacks-drop, lacks-merged, apart-push, apart-drop, apart-merged}
use Rattle.bank_shape.specs.declared.BankShape.{BankShape}
use Rattle.bank_shape.specs.declared.answer.WriteAnswer.TheVariants as wrote
use Rattle.bank_shape.specs.declared.answer.ReadAnswer.TheVariants as came
use Rattle.bank_shape.specs.declared.answer.Step.TheVariants as did
use Rattle.bank_model.specs.{Events.{BankEvent, Write, Read, Serve, Begin, Iterate, Cut, RowsBelow}, History.{Awaited, awaited, begun, queue, waits}}
use Rattle.bank_model.proofs.Begun.{row-begun, apart-begun}
use Rattle.bank_laws.{specs.Standing.{has_wait, AreRowsApart, RowLaw}, proofs.Entries.{differ, no_wait-push, no_wait-drop, waits_apart-push, waits_apart-drop}}

-- a row that is there is no row that isn't
there : {A : Type 0} (b : Bool) → b ≡ true → b ≡ false → A
there b h k = absurd (cc)

module _ {n : ℕ} where
  pub later : (es : List (Entry n)) (ws : List Awaited) (a b : ℕ) → a ≤ b → AreRowsApart es ws a → AreRowsApart es ws b
  later es ws a b le s = record {
    queued_below = λ row h. s.queued_below row (omega arith);
    waiting_below = λ row h. s.waiting_below row (omega arith);
    queued_apart = s.queued_apart;
    waiting_apart = s.waiting_apart;
    one_place = s.one_place;
  }

  -- an entry of this row is among these, or the new one is
  pub accepted : (es : List (Entry n)) (ws : List Awaited) (x : Entry n) (next : ℕ) → x.row < next → AreRowsApart es ws x.row → AreRowsApart (es ++ x ∷ []) ws next
  accepted es ws x next lt s = record {
    queued_below = λ row h. lacks-push es x row (s.queued_below row (omega arith)) (differ x.row row (omega arith));
    waiting_below = λ row h. s.waiting_below row (omega arith);
    queued_apart = apart-push es x s.queued_apart (s.queued_below x.row (omega arith));
    waiting_apart = s.waiting_apart;
    one_place = λ row h.
        elim (has_row es row) as (λ b. has_row es row ≡ b → has_wait ws row ≡ false) [
          | true ↦ λ is. s.one_place row is
          | false ↦ λ is. new row h is (eqb x.row row) refl
        ] refl;
  }
    where
      new : (row : ℕ) → has_row (es ++ x ∷ []) row ≡ true → has_row es row ≡ false → (b : Bool) → eqb x.row row ≡ b → has_wait ws row ≡ false
      new row h is true e = subst (λ r. has_wait ws r ≡ false) (eqb-true x.row row e) (s.waiting_below x.row (omega arith))
      new row h is false e = there _ h (lacks-push es x row is e)

  pub merges : (es : List (Entry n)) (ws : List Awaited) (old row : ℕ) (bytes : List ℕ) (given : List Bool) (next : ℕ)
      → row < next → AreRowsApart es ws row → AreRowsApart (merged old row bytes given es) ws next
  merges es ws old row bytes given next lt s = record {
    queued_below = λ r h. lacks-merged old row bytes given es r (s.queued_below r (omega arith)) (differ row r (omega arith));
    waiting_below = λ r h. s.waiting_below r (omega arith);
    queued_apart = apart-merged old row bytes given es s.queued_apart (s.queued_below row (omega arith));
    waiting_apart = s.waiting_apart;
    one_place = λ r h.
        elim (has_row es r) as (λ b. has_row es r ≡ b → has_wait ws r ≡ false) [
          | true ↦ λ is. s.one_place r is
          | false ↦ λ is. new r h is (eqb row r) refl
        ] refl;
  }
    where
      new : (r : ℕ) → has_row (merged old row bytes given es) r ≡ true → has_row es r ≡ false → (b : Bool) → eqb row r ≡ b → has_wait ws r ≡ false
      new r h is true e = subst (λ r. has_wait ws r ≡ false) (eqb-true row r e) (s.waiting_below row (omega arith))
      new r h is false e = there _ h (lacks-merged old row bytes given es r is e)

  pub waiting : (es : List (Entry n)) (ws : List Awaited) (w : Awaited) (next : ℕ) → w.row < next → AreRowsApart es ws w.row → AreRowsApart es (ws ++ w ∷ []) next
  waiting es ws w next lt s = record {
    queued_below = λ row h. s.queued_below row (omega arith);
    waiting_below = λ row h. no_wait-push ws w row (s.waiting_below row (omega arith)) (differ w.row row (omega arith));
    queued_apart = s.queued_apart;
    waiting_apart = waits_apart-push ws w s.waiting_apart (s.waiting_below w.row (omega arith));
    one_place = λ row h. no_wait-push ws w row (s.one_place row h) (ne_eqb w.row row (λ e. there _ h (s.queued_below row (omega arith))));
  }

  pub stored : (es : List (Entry n)) (ws : List Awaited) (next : ℕ) → AreRowsApart es ws next → AreRowsApart (drop 1 es) ws next
  stored es ws next s = record {
    queued_below = λ row h. lacks-drop es row (s.queued_below row h);
    waiting_below = s.waiting_below;
    queued_apart = apart-drop es s.queued_apart;
    waiting_apart = s.waiting_apart;
    one_place = λ row h.
        elim (has_row es row) as (λ b. has_row es row ≡ b → has_wait ws row ≡ false) [
          | true ↦ λ is. s.one_place row is
          | false ↦ λ is. there _ h (lacks-drop es row is)
        ] refl;
  }

  pub begins : (due : Option ℕ) (f : ℕ → List ℕ) (es : List (Entry n)) (ws : List Awaited) (next : ℕ) → AreRowsApart es ws next → AreRowsApart (begun due f es) ws next
  begins due f es ws next s = record {
    queued_below = λ row h. row-begun due f es row ∙ s.queued_below row h;
    waiting_below = s.waiting_below;
    queued_apart = apart-begun due f es s.queued_apart;
    waiting_apart = s.waiting_apart;
    one_place = λ row h. s.one_place row (sym (row-begun due f es row) ∙ h);
  }

  pub served : (es : List (Entry n)) (ws : List Awaited) (next : ℕ) → AreRowsApart es ws next → AreRowsApart es (drop 1 ws) next
  served es ws next s = record {
    queued_below = s.queued_below;
    waiting_below = λ row h. no_wait-drop ws row (s.waiting_below row h);
    queued_apart = s.queued_apart;
    waiting_apart = waits_apart-drop ws s.waiting_apart;
    one_place = λ row h. no_wait-drop ws row (s.one_place row h);
  }

  pub dropped : (es : List (Entry n)) (ws : List Awaited) (next : ℕ) → AreRowsApart es ws next → AreRowsApart es [] next
  dropped es ws next s = record {
    queued_below = s.queued_below;
    waiting_below = λ row h. refl;
    queued_apart = s.queued_apart;
    waiting_apart = tt;
    one_place = λ row h. refl;
  }

  -- the rows that stand after any events whose rows rise
  pub stand_apart : (shape : BankShape) (h : List (BankEvent n)) (next : ℕ) → RowsBelow h next → AreRowsApart (queue shape h) (waits shape h) next
  stand_apart shape [] next b = record { queued_below = λ row h. refl; waiting_below = λ row h. refl; queued_apart = tt; waiting_apart = tt; one_place = λ row h. refl }
  stand_apart shape (Write row line bytes given wrote.Accepted ∷ h) next b = accepted _ _ _ next b.0 (stand_apart shape h row b.1)
  stand_apart shape (Write row line bytes given (wrote.Merged old) ∷ h) next b = merges _ _ old row bytes given next b.0 (stand_apart shape h row b.1)
  stand_apart shape (Write row line bytes given _ ∷ h) next b = later _ _ row next (omega (arith, b.0)) (stand_apart shape h row b.1)
  stand_apart shape (Read row line came.Waiting ∷ h) next b = waiting _ _ (awaited row line _ _) next b.0 (stand_apart shape h row b.1)
  stand_apart shape (Read row line _ ∷ h) next b = later _ _ row next (omega (arith, b.0)) (stand_apart shape h row b.1)
  stand_apart shape (Serve answer ∷ h) next b = served _ _ next (stand_apart shape h next b)
  stand_apart shape (Begin (did.Stored row place) ∷ h) next b = stored _ _ next (stand_apart shape h next b)
  stand_apart shape (Begin _ ∷ h) next b = begins _ _ _ _ next (stand_apart shape h next b)
  stand_apart shape (Iterate (did.Stored row place) ∷ h) next b = stored _ _ next (stand_apart shape h next b)
  stand_apart shape (Iterate _ ∷ h) next b = stand_apart shape h next b
  stand_apart shape (Cut tearing ∷ h) next b = dropped _ _ next (stand_apart shape h next b)

pub row_law : RowLaw
row_law n shape h next b = stand_apart shape h next b
