-- The queue and the waiting reads are never longer than they may be.
use Rattle.std.proofs.Common.{◌≡◌, ℕ, ◌+◌, suc, ◌≤◌, Bool, true, false, List, [], ◌∷◌, ◌++◌, Option, None, drop, length, refl, sym, ap, subst, arith, cond, eqb, length-append}
use Rattle.std.proofs.lemmas.Bool.{eqb-false}
use Rattle.masked_bytes.specs.{Entries.{merged, laid_on, candidate, layer_of}, Masked.gives_all, declared.entry.Entry.Entry}
use Rattle.bank_shape.specs.{declared.BankShape.BankShape, declared.answer.ReadAnswer.ReadAnswer}
use Rattle.bank_shape.specs.declared.answer.WriteAnswer.TheVariants as wrote
use Rattle.bank_shape.specs.declared.answer.ReadAnswer.TheVariants as came
use Rattle.bank_shape.specs.declared.answer.Step.TheVariants as did
use Rattle.bank_model.specs.{Answers.{head_busy_after, accept_answer, write_answer, read_answer, MayAll}, Events.{BankEvent, Write, Read, Serve, Begin, Iterate, Cut, newest}}
use Rattle.bank_model.specs.History.{begun, queue, waits, due_after, has_exhausted}
use Rattle.bank_laws.specs.Bounds.{HoldsFew, BoundLaw}

length-push : {X : Type 0} (xs : List X) (x : X) → length (xs ++ x ∷ []) ≡ length xs + 1
length-push xs x = length-append xs (x ∷ [])

length-drop_one : {X : Type 0} (xs : List X) (most : ℕ) → length xs ≤ most → length (drop 1 xs) ≤ most
length-drop_one xs most le = grind arith

module _ {n : ℕ} where
  pub length-merged : (old row : ℕ) (bytes : List ℕ) (given : List Bool) (es : List (Entry n)) → length (merged old row bytes given es) ≡ length es
  length-merged old row bytes given [] = refl
  length-merged old row bytes given (e ∷ es) =
      elim (eqb e.row old) as (λ b. length (cond b (laid_on row bytes given e ∷ es) (e ∷ merged old row bytes given es)) ≡ length (e ∷ es)) [
        | true ↦ refl
        | false ↦ ap suc (length-merged old row bytes given es)
      ]

  length-begun : (due : Option ℕ) (f : ℕ → List ℕ) (es : List (Entry n)) → length (begun due f es) ≡ length es
  length-begun due f es = grind arith

  -- a write is accepted as a new entry only where there is room, and a read waits only where there is
  accepted-room : (shape : BankShape) (h : List (BankEvent n)) (line : ℕ) → wrote.Accepted ≡ write_answer shape h line → length (queue shape h) ≡ shape.writes → ⊥
  accepted-room shape h line a = by (has_exhausted h) (candidate (head_busy_after shape h) (queue shape h) line) a
    where
      room : (b : Bool) → eqb (length (queue shape h)) shape.writes ≡ b → wrote.Accepted ≡ cond b wrote.Full wrote.Accepted → length (queue shape h) ≡ shape.writes → ⊥
      room true is a = absurd (cc)
      room false is a = eqb-false (length (queue shape h)) shape.writes is

      by : (b : Bool) (c : Option ℕ) → wrote.Accepted ≡ cond b wrote.Exhausted (accept_answer shape h c) → length (queue shape h) ≡ shape.writes → ⊥
      by false None a = room (eqb (length (queue shape h)) shape.writes) refl a
      by _ _ a = absurd (cc)

  waiting-room : (shape : BankShape) (h : List (BankEvent n)) (line : ℕ) → ◌≡◌ {A = ReadAnswer n} came.Waiting (read_answer shape h line) → length (waits shape h) ≡ shape.reads → ⊥
  waiting-room shape h line a = by (gives_all ((layer_of (queue shape h) line).given)) (eqb (length (waits shape h)) shape.reads) refl a
    where
      by : (b c : Bool) → eqb (length (waits shape h)) shape.reads ≡ c → ◌≡◌ {A = ReadAnswer n} came.Waiting (cond b (came.Forwarded (newest h line)) (cond c came.Busy came.Waiting))
          → length (waits shape h) ≡ shape.reads → ⊥
      by false false is a = eqb-false (length (waits shape h)) shape.reads is
      by _ _ is a = absurd (cc)

  holds_few : (shape : BankShape) (most : ℕ) (h : List (BankEvent n)) → MayAll shape most h → HoldsFew shape h
  holds_few shape most [] m = record { writes = omega arith; reads = omega arith }
  holds_few shape most (Write row line bytes given wrote.Accepted ∷ h) m =
      let k = holds_few shape most h m.1 in
      let room : length (queue shape h) ≡ shape.writes → ⊥ = accepted-room shape h line m.0.2 in
      let few : length (queue shape h) ≤ shape.writes = k.writes in
      record { writes = rw (length-push (queue shape h) (record { row = row; line = line; bytes = bytes; given = given })) (omega arith); reads = k.reads }
  holds_few shape most (Write row line bytes given (wrote.Merged old) ∷ h) m =
      let k = holds_few shape most h m.1 in
      record { writes = subst (λ k. k ≤ shape.writes) (sym (length-merged old row bytes given (queue shape h))) k.writes; reads = k.reads }
  holds_few shape most (Read row line came.Waiting ∷ h) m =
      let k = holds_few shape most h m.1 in
      let room : length (waits shape h) ≡ shape.reads → ⊥ = waiting-room shape h line m.0.1 in
      let few : length (waits shape h) ≤ shape.reads = k.reads in
      let more : length (waits shape (Read row line came.Waiting ∷ h)) ≡ length (waits shape h) + 1 = length-push (waits shape h) _ in
      record { writes = k.writes; reads = omega arith }
  holds_few shape most (Serve answer ∷ h) m = let k = holds_few shape most h m.1 in record { writes = k.writes; reads = length-drop_one (waits shape h) shape.reads k.reads }
  holds_few shape most (Begin (did.Stored row place) ∷ h) m = let k = holds_few shape most h m.1 in record { writes = length-drop_one (queue shape h) shape.writes k.writes; reads = k.reads }
  holds_few shape most (Begin _ ∷ h) m =
      let k = holds_few shape most h m.1 in record { writes = subst (λ k. k ≤ shape.writes) (sym (length-begun (due_after shape h) (newest h) (queue shape h))) k.writes; reads = k.reads }
  holds_few shape most (Iterate (did.Stored row place) ∷ h) m = let k = holds_few shape most h m.1 in record { writes = length-drop_one (queue shape h) shape.writes k.writes; reads = k.reads }
  holds_few shape most (Cut tearing ∷ h) m = let k = holds_few shape most h m.1 in record { writes = k.writes; reads = omega arith }
  holds_few shape most (_ ∷ h) m = let k = holds_few shape most h m.1 in record { writes = k.writes; reads = k.reads }

pub bound_law : BoundLaw
bound_law n most shape h m = holds_few shape most h m
