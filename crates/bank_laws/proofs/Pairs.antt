-- Two entries of one line stand only where the lower one is the head and gives all bytes.
use Rattle.std.proofs.Common.{◌≡◌, ℕ, ◌==◌, ◌||◌, ◌&&◌, not, Bool, true, false, List, [], ◌∷◌, ◌++◌, Option, Some, None, drop, length, refl, sym, ap, ◌∙◌, subst, arith, cond, eqb, eqb-true}
use Rattle.std.proofs.{lemmas.Bool.{eq-eqb, or_from}, lemmas.List.length-replicate}
use Rattle.masked_bytes.specs.{Entries.{merged, laid_on, newest_row, candidate, or_this}, Masked.{joined, gives_all}, declared.entry.Entry.Entry}
use Rattle.masked_bytes.proofs.{Layering.{length-joined, gives_all-all_given}, Truth.{neither_first, neither_second, and_first, and_second, differ_sym}}
use Rattle.bank_shape.specs.{Kinds.is_store, declared.BankShape.BankShape, declared.Work.TheVariants.Nothing}
use Rattle.bank_shape.specs.declared.answer.WriteAnswer.TheVariants as wrote
use Rattle.bank_shape.specs.declared.answer.Step.TheVariants as did
use Rattle.bank_model.specs.{After.{is_ready, due_work}, Answers.{head_busy_after, accept_answer, write_answer, MayAll}, Events.{BankEvent, Write, Begin, Iterate, Cut, newest}}
use Rattle.bank_model.specs.History.{Awaited, begun, queue, waits, due_after, has_exhausted, in_progress}
use Rattle.bank_laws.{specs.Pairs.{has_line, LinesApart, ArePaired, PairLaw}, proofs.Entries.either}

pub gives_all-joined : (given other : List Bool) → length given ≡ length other → gives_all other ≡ true → gives_all (joined given other) ≡ true
gives_all-joined [] other e h = h
gives_all-joined (g ∷ given) [] e h = absurd (omega arith)
gives_all-joined (true ∷ given) (true ∷ other) e h = gives_all-joined given other (omega arith) h
gives_all-joined (false ∷ given) (true ∷ other) e h = gives_all-joined given other (omega arith) h
gives_all-joined (g ∷ given) (false ∷ other) e h = absurd (cc)

module _ {n : ℕ} where
  -- each entry says of n bytes whether they are given
  abbrev pub AllLong : List (Entry n) → Type 0
  AllLong [] = Unit {0}
  AllLong (e ∷ es) = (length e.given ≡ n) × AllLong es

  -- the head gives all bytes
  abbrev pub HeadFull : List (Entry n) → Type 0
  HeadFull [] = ⊥
  HeadFull (e ∷ es) = gives_all e.given ≡ true

  -- a line write in progress has work: a copy, or the store of a head that gives all bytes
  abbrev pub HasWork : Bool → Option ℕ → List (Entry n) → Type 0
  HasWork true due es = ⊥
  HasWork false (Some region) es = Unit {0}
  HasWork false None es = HeadFull es

  -- New entries

  no_line-push : (es : List (Entry n)) (x : Entry n) (line : ℕ) → has_line es line ≡ false → (x.line == line) ≡ false → has_line (es ++ x ∷ []) line ≡ false
  no_line-push [] x line h k = or_from (x.line == line) false k refl
  no_line-push (e ∷ es) x line h k = or_from (e.line == line) _ (neither_first (e.line == line) _ h) (no_line-push es x line (neither_second (e.line == line) _ h) k)

  lines_apart-push : (es : List (Entry n)) (x : Entry n) → LinesApart es → has_line es x.line ≡ false → LinesApart (es ++ x ∷ [])
  lines_apart-push [] x a h = (refl, tt)
  lines_apart-push (e ∷ es) x a h = (
    no_line-push es x e.line a.0 (differ_sym e.line x.line (neither_first (e.line == x.line) _ h)),
    lines_apart-push es x a.1 (neither_second (e.line == x.line) _ h),
  )

  long-push : (es : List (Entry n)) (x : Entry n) → AllLong es → length x.given ≡ n → AllLong (es ++ x ∷ [])
  long-push [] x l h = (h, tt)
  long-push (e ∷ es) x l h = (l.0, long-push es x l.1 h)

  pub no_candidate-rest : (es : List (Entry n)) (line : ℕ) (other : Option ℕ) → or_this (newest_row es line) other ≡ None → has_line es line ≡ false
  no_candidate-rest [] line other h = refl
  no_candidate-rest (e ∷ es) line other h = by (newest_row es line) (no_candidate-rest es line None) h
    where
      own : (b : Bool) → (eqb e.line line ≡ b) → or_this (cond b (Some e.row) None) other ≡ None → has_line es line ≡ false → has_line (e ∷ es) line ≡ false
      own true is h rest = absurd (cc)
      own false is h rest = or_from (e.line == line) _ is rest

      by : (r : Option ℕ) → (or_this r None ≡ None → has_line es line ≡ false) → or_this (or_this r (cond (eqb e.line line) (Some e.row) None)) other ≡ None → has_line (e ∷ es) line ≡ false
      by (Some row) rest h = absurd (cc)
      by None rest h = own (eqb e.line line) refl h (rest refl)

  -- where a write merges into nothing, the rest of the queue lacks its line, and so does the head or it is busy
  pub no_candidate-head : (busy : Bool) (e : Entry n) (es : List (Entry n)) (line : ℕ) → candidate busy (e ∷ es) line ≡ None → (line == e.line) ≡ true → busy ≡ true
  no_candidate-head busy e es line h is = by (newest_row es line) h
    where
      own : (b busy : Bool) → b ≡ true → cond (not busy && b) (Some e.row) None ≡ None → busy ≡ true
      own b busy same h = grind arith

      same : (e.line == line) ≡ true
      same = subst (λ l. (e.line == l) ≡ true) (sym (eqb-true line e.line is)) (eq-eqb e.line e.line refl)

      by : (r : Option ℕ) → or_this r (cond (not busy && eqb e.line line) (Some e.row) None) ≡ None → busy ≡ true
      by (Some row) h = absurd (cc)
      by None h = own (eqb e.line line) busy same h

  paired-push : (es : List (Entry n)) (x : Entry n) → ArePaired es
      → ((e : Entry n) (rest : List (Entry n)) → es ≡ e ∷ rest → (has_line rest x.line ≡ false) × ((x.line == e.line) ≡ true → gives_all e.given ≡ true)) → ArePaired (es ++ x ∷ [])
  paired-push [] x a new = (tt, λ h. absurd (cc))
  paired-push (e ∷ es) x a new =
      let f = new e es refl in (
        lines_apart-push es x a.0 f.0,
        λ h. either (has_line es e.line) a.1 (λ no. either (x.line == e.line) f.1 (λ other. absurd (cc (no_line-push es x e.line no other, h)))),
      )

  -- Merged entries

  pub line-merged : (old row : ℕ) (bytes : List ℕ) (given : List Bool) (es : List (Entry n)) (line : ℕ) → has_line (merged old row bytes given es) line ≡ has_line es line
  line-merged old row bytes given [] line = refl
  line-merged old row bytes given (e ∷ es) line =
      elim (eqb e.row old) as (λ b. has_line (cond b (laid_on row bytes given e ∷ es) (e ∷ merged old row bytes given es)) line ≡ has_line (e ∷ es) line) [
        | true ↦ refl
        | false ↦ ap (λ b. e.line == line || b) (line-merged old row bytes given es line)
      ]

  lines_apart-merged : (old row : ℕ) (bytes : List ℕ) (given : List Bool) (es : List (Entry n)) → LinesApart es → LinesApart (merged old row bytes given es)
  lines_apart-merged old row bytes given [] a = tt
  lines_apart-merged old row bytes given (e ∷ es) a =
      elim (eqb e.row old) as (λ b. LinesApart (cond b (laid_on row bytes given e ∷ es) (e ∷ merged old row bytes given es))) [
        | true ↦ a
        | false ↦ (line-merged old row bytes given es e.line ∙ a.0, lines_apart-merged old row bytes given es a.1)
      ]

  long-merged : (old row : ℕ) (bytes : List ℕ) (given : List Bool) (es : List (Entry n)) → length given ≡ n → AllLong es → AllLong (merged old row bytes given es)
  long-merged old row bytes given [] g l = tt
  long-merged old row bytes given (e ∷ es) g l =
      elim (eqb e.row old) as (λ b. AllLong (cond b (laid_on row bytes given e ∷ es) (e ∷ merged old row bytes given es))) [
        | true ↦ (length-joined given e.given (g ∙ sym l.0) ∙ l.0, l.1)
        | false ↦ (l.0, long-merged old row bytes given es g l.1)
      ]

  paired-merged : (old row : ℕ) (bytes : List ℕ) (given : List Bool) (es : List (Entry n)) → length given ≡ n → AllLong es → ArePaired es → ArePaired (merged old row bytes given es)
  paired-merged old row bytes given [] g l a = tt
  paired-merged old row bytes given (e ∷ es) g l a =
      elim (eqb e.row old) as (λ b. ArePaired (cond b (laid_on row bytes given e ∷ es) (e ∷ merged old row bytes given es))) [
        | true ↦ (a.0, λ h. gives_all-joined given e.given (g ∙ sym l.0) (a.1 h))
        | false ↦ (lines_apart-merged old row bytes given es a.0, λ h. a.1 (sym (line-merged old row bytes given es e.line) ∙ h))
      ]

  full-merged : (old row : ℕ) (bytes : List ℕ) (given : List Bool) (es : List (Entry n)) → length given ≡ n → AllLong es → HeadFull es → HeadFull (merged old row bytes given es)
  full-merged old row bytes given [] g l f = absurd f
  full-merged old row bytes given (e ∷ es) g l f =
      elim (eqb e.row old) as (λ b. HeadFull (cond b (laid_on row bytes given e ∷ es) (e ∷ merged old row bytes given es))) [
        | true ↦ gives_all-joined given e.given (g ∙ sym l.0) f
        | false ↦ f
      ]

  work-merged : (b : Bool) (due : Option ℕ) (old row : ℕ) (bytes : List ℕ) (given : List Bool) (es : List (Entry n)) → length given ≡ n → AllLong es → HasWork b due es → HasWork b due (merged old row bytes given es)
  work-merged true due old row bytes given es g l w = absurd w
  work-merged false (Some region) old row bytes given es g l w = tt
  work-merged false None old row bytes given es g l w = full-merged old row bytes given es g l w

  work-push : (b : Bool) (due : Option ℕ) (es : List (Entry n)) (x : Entry n) → HasWork b due es → HasWork b due (es ++ x ∷ [])
  work-push b due es x w = grind arith

  -- Stored and begun entries

  paired-drop : (es : List (Entry n)) → ArePaired es → ArePaired (drop 1 es)
  paired-drop (e ∷ f ∷ es) a = (a.0.1, λ h. absurd (cc (a.0.0, h)))
  paired-drop _ a = tt

  long-drop : (es : List (Entry n)) → AllLong es → AllLong (drop 1 es)
  long-drop es l = grind arith

  paired-begun : (due : Option ℕ) (f : ℕ → List ℕ) (es : List (Entry n)) → ArePaired es → ArePaired (begun due f es)
  paired-begun (Some region) f es a = a
  paired-begun None f [] a = tt
  paired-begun None f (e ∷ es) a = (a.0, λ h. gives_all-all_given n)

  long-begun : (due : Option ℕ) (f : ℕ → List ℕ) (es : List (Entry n)) → AllLong es → AllLong (begun due f es)
  long-begun (Some region) f es l = l
  long-begun None f [] l = tt
  long-begun None f (e ∷ es) l = (length-replicate n true, l.1)

module _ {n : ℕ} (shape : BankShape) where
  -- what is kept over a history that the bank allows
  pub record KeepsPairs (h : List (BankEvent n)) : Type 0 where
    pub paired : ArePaired (queue shape h)
    pub long : AllLong (queue shape h)
    pub working : in_progress h ≡ true → HasWork (has_exhausted h) (due_after shape h) (queue shape h)

  -- a work that may be begun is there once its head is completed
  work-begun : (h : List (BankEvent n)) (b : Bool) (due : Option ℕ) (es : List (Entry n)) (ws : List Awaited) (f : ℕ → List ℕ)
      → is_ready ws (cond b Nothing (due_work shape h due es)) ≡ true → HasWork b due (begun due f es)
  work-begun h false (Some region) es ws f r = tt
  work-begun h false None (e ∷ es) ws f r = gives_all-all_given n
  work-begun h _ _ _ ws f r = absurd (cc)

  -- a busy head gives all bytes
  pub busy-full : (h : List (BankEvent n)) (b : Bool) (due : Option ℕ) (es : List (Entry n)) → HasWork b due es → is_store (cond b Nothing (due_work shape h due es)) ≡ true → HeadFull es
  busy-full h b due es w s = grind arith

  -- a write that is accepted as a new entry merges into none
  pub accepted-none : (h : List (BankEvent n)) (line : ℕ) → wrote.Accepted ≡ write_answer shape h line → candidate (head_busy_after shape h) (queue shape h) line ≡ None
  accepted-none h line a = by (has_exhausted h) (candidate (head_busy_after shape h) (queue shape h) line) a
    where
      by : (b : Bool) (c : Option ℕ) → wrote.Accepted ≡ cond b wrote.Exhausted (accept_answer shape h c) → c ≡ None
      by b c a = grind arith

  new_entry : (h : List (BankEvent n)) (line : ℕ) → KeepsPairs h → candidate (head_busy_after shape h) (queue shape h) line ≡ None
      → (e : Entry n) (rest : List (Entry n)) → queue shape h ≡ e ∷ rest → (has_line rest line ≡ false) × ((line == e.line) ≡ true → gives_all e.given ≡ true)
  new_entry h line k c e rest is =
      let found : candidate (head_busy_after shape h) (e ∷ rest) line ≡ None = subst (λ (q : List (Entry n)). candidate (head_busy_after shape h) q line ≡ None) is c in (
        no_candidate-rest rest line _ found,
        λ same.
            let busy : head_busy_after shape h ≡ true = no_candidate-head (head_busy_after shape h) e rest line found same in
            let full : HeadFull (queue shape h) =
            busy-full h (has_exhausted h) (due_after shape h) (queue shape h) (k.working (and_first (in_progress h) _ busy)) (and_second (in_progress h) _ busy) in
            subst (λ (q : List (Entry n)). HeadFull q) is full,
      )

  pub keeps_pairs : (most : ℕ) (h : List (BankEvent n)) → MayAll shape most h → KeepsPairs h
  keeps_pairs most [] m = record { paired = tt; long = tt; working = λ p. absurd (cc) }
  keeps_pairs most (Write row line bytes given wrote.Accepted ∷ h) m =
      let k = keeps_pairs most h m.1 in
      record {
        paired = paired-push (queue shape h) _ k.paired (new_entry h line k (accepted-none h line m.0.2));
        long = long-push (queue shape h) _ k.long m.0.1.given_len;
        working = λ p. work-push (has_exhausted h) (due_after shape h) (queue shape h) _ (k.working p);
      }
  keeps_pairs most (Write row line bytes given (wrote.Merged old) ∷ h) m =
      let k = keeps_pairs most h m.1 in
      record {
        paired = paired-merged old row bytes given (queue shape h) m.0.1.given_len k.long k.paired;
        long = long-merged old row bytes given (queue shape h) m.0.1.given_len k.long;
        working = λ p. work-merged (has_exhausted h) (due_after shape h) old row bytes given (queue shape h) m.0.1.given_len k.long (k.working p);
      }
  keeps_pairs most (Begin (did.Stored row place) ∷ h) m =
      let k = keeps_pairs most h m.1 in record { paired = paired-drop (queue shape h) k.paired; long = long-drop (queue shape h) k.long; working = λ p. absurd (cc) }
  keeps_pairs most (Begin did.More ∷ h) m =
      let k = keeps_pairs most h m.1 in
      record {
        paired = paired-begun (due_after shape h) (newest h) (queue shape h) k.paired;
        long = long-begun (due_after shape h) (newest h) (queue shape h) k.long;
        working = λ p. work-begun h (has_exhausted h) (due_after shape h) (queue shape h) (waits shape h) (newest h) (and_second (not (in_progress h)) _ m.0.0);
      }
  keeps_pairs most (Begin _ ∷ h) m =
      let k = keeps_pairs most h m.1 in
      record { paired = paired-begun (due_after shape h) (newest h) (queue shape h) k.paired; long = long-begun (due_after shape h) (newest h) (queue shape h) k.long; working = λ p. absurd (cc) }
  keeps_pairs most (Iterate (did.Stored row place) ∷ h) m =
      let k = keeps_pairs most h m.1 in record { paired = paired-drop (queue shape h) k.paired; long = long-drop (queue shape h) k.long; working = λ p. absurd (cc) }
  keeps_pairs most (Iterate did.More ∷ h) m =
      let k = keeps_pairs most h m.1 in record { paired = k.paired; long = k.long; working = λ p. k.working m.0.0 }
  keeps_pairs most (Iterate _ ∷ h) m = let k = keeps_pairs most h m.1 in record { paired = k.paired; long = k.long; working = λ p. absurd (cc) }
  keeps_pairs most (Cut tearing ∷ h) m = let k = keeps_pairs most h m.1 in record { paired = k.paired; long = k.long; working = λ p. absurd (cc) }
  keeps_pairs most (_ ∷ h) m = let k = keeps_pairs most h m.1 in record { paired = k.paired; long = k.long; working = k.working }

pub pair_law : PairLaw
pair_law n most shape h m = (keeps_pairs shape most h m).paired
