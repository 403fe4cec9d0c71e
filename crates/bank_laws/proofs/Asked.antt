-- Which row asked for which line: what stands in the queue and what waits has its own line.
use Rattle.std.proofs.Common.{◌≡◌, ℕ, ◌*◌, ◌<◌, ◌⊎◌, inl, inr, Bool, true, false, List, [], ◌∷◌, ◌++◌, Option, drop, refl, sym, ◌∙◌, arith, cond, eqb, eqb-true}
use Rattle.std.proofs.lemmas.Bool.{eq-eqb}
use Rattle.masked_bytes.specs.{Entries.{merged, laid_on}, declared.entry.Entry.Entry}
use Rattle.bank_shape.specs.declared.BankShape.{BankShape}
use Rattle.bank_shape.specs.declared.answer.WriteAnswer.TheVariants as wrote
use Rattle.bank_shape.specs.declared.answer.ReadAnswer.TheVariants as came
use Rattle.bank_shape.specs.declared.answer.Step.TheVariants as did
use Rattle.bank_model.specs.{Answers.MayAll, Events.{BankEvent, Write, Read, Serve, Begin, Iterate, Cut, RowsBelow, line_of_row}, History.{Awaited, begun, queue, waits}}
use Rattle.bank_laws.proofs.{Lines.{Stands, stands-one, merges-stands}, Standing.stand_apart}

module _ {n : ℕ} where
  -- the write of this row is of this line
  abbrev pub Wrote : List (BankEvent n) → ℕ → ℕ → Type 0
  Wrote [] row line = ⊥
  Wrote (Write at of bytes given answer ∷ h) row line = ((at ≡ row) × (of ≡ line)) ⊎ Wrote h row line
  Wrote (_ ∷ h) row line = Wrote h row line

  -- the write or the read of this row is of this line
  abbrev pub Asked : List (BankEvent n) → ℕ → ℕ → Type 0
  Asked [] row line = ⊥
  Asked (Write at of bytes given answer ∷ h) row line = ((at ≡ row) × (of ≡ line)) ⊎ Asked h row line
  Asked (Read at of answer ∷ h) row line = ((at ≡ row) × (of ≡ line)) ⊎ Asked h row line
  Asked (_ ∷ h) row line = Asked h row line

  pub wrote-asked : (h : List (BankEvent n)) (row line : ℕ) → Wrote h row line → Asked h row line
  wrote-asked [] row line w = w
  wrote-asked (Write at of bytes given answer ∷ h) row line (inl w) = inl w
  wrote-asked (Write at of bytes given answer ∷ h) row line (inr w) = inr (wrote-asked h row line w)
  wrote-asked (Read at of answer ∷ h) row line w = inr (wrote-asked h row line w)
  wrote-asked (_ ∷ h) row line w = wrote-asked h row line w

  pub asked-below : (h : List (BankEvent n)) (next row line : ℕ) → RowsBelow h next → Asked h row line → row < next
  asked-below [] next row line b a = absurd a
  asked-below (Write at of bytes given answer ∷ h) next row line b (inl a) = omega (arith, b.0, a.0)
  asked-below (Write at of bytes given answer ∷ h) next row line b (inr a) = omega (arith, b.0, asked-below h at row line b.1 a)
  asked-below (Read at of answer ∷ h) next row line b (inl a) = omega (arith, b.0, a.0)
  asked-below (Read at of answer ∷ h) next row line b (inr a) = omega (arith, b.0, asked-below h at row line b.1 a)
  asked-below (_ ∷ h) next row line b a = asked-below h next row line b a

  -- a row asked for one line
  pub asked-one : (h : List (BankEvent n)) (next row one other : ℕ) → RowsBelow h next → Asked h row one → Asked h row other → one ≡ other
  asked-one [] next row one other b p q = absurd p
  asked-one (Write at of bytes given answer ∷ h) next row one other b (inl p) (inl q) = sym p.1 ∙ q.1
  asked-one (Write at of bytes given answer ∷ h) next row one other b (inl p) (inr q) = absurd (omega (arith, p.0, asked-below h at row other b.1 q))
  asked-one (Write at of bytes given answer ∷ h) next row one other b (inr p) (inl q) = absurd (omega (arith, q.0, asked-below h at row one b.1 p))
  asked-one (Write at of bytes given answer ∷ h) next row one other b (inr p) (inr q) = asked-one h at row one other b.1 p q
  asked-one (Read at of answer ∷ h) next row one other b (inl p) (inl q) = sym p.1 ∙ q.1
  asked-one (Read at of answer ∷ h) next row one other b (inl p) (inr q) = absurd (omega (arith, p.0, asked-below h at row other b.1 q))
  asked-one (Read at of answer ∷ h) next row one other b (inr p) (inl q) = absurd (omega (arith, q.0, asked-below h at row one b.1 p))
  asked-one (Read at of answer ∷ h) next row one other b (inr p) (inr q) = asked-one h at row one other b.1 p q
  asked-one (_ ∷ h) next row one other b p q = asked-one h next row one other b p q

  pub wrote-below : (h : List (BankEvent n)) (next row line : ℕ) → RowsBelow h next → Wrote h row line → row < next
  wrote-below h next row line b w = asked-below h next row line b (wrote-asked h row line w)

  pub wrote-one : (h : List (BankEvent n)) (next row one other : ℕ) → RowsBelow h next → Wrote h row one → Wrote h row other → one ≡ other
  wrote-one h next row one other b p q = asked-one h next row one other b (wrote-asked h row one p) (wrote-asked h row other q)

  pub wrote-line : (h : List (BankEvent n)) (next row line : ℕ) → RowsBelow h next → Wrote h row line → line_of_row row h ≡ line
  wrote-line [] next row line b w = absurd w
  wrote-line (Write at of bytes given answer ∷ h) next row line b w = by (eqb at row) refl (λ w. wrote-line h at row line b.1 w) w
    where
      by : (same : Bool) → eqb at row ≡ same → (Wrote h row line → line_of_row row h ≡ line) → ((at ≡ row) × (of ≡ line)) ⊎ Wrote h row line → cond same of (line_of_row row h) ≡ line
      by true is go (inl w) = w.1
      by true is go (inr w) = absurd (omega (arith, eqb-true at row is, wrote-below h at row line b.1 w))
      by false is go (inl w) = absurd (cc (eq-eqb at row w.0))
      by false is go (inr w) = go w
  wrote-line (Read at of answer ∷ h) next row line b w = wrote-line h at row line b.1 w
  wrote-line (_ ∷ h) next row line b w = wrote-line h next row line b w

  -- every line is one of the bank's
  pub asked-within : (shape : BankShape) (most : ℕ) (h : List (BankEvent n)) (row line : ℕ) → MayAll shape most h → Asked h row line → line < shape.regions * shape.lines
  asked-within shape most [] row line may a = absurd a
  asked-within shape most (Write at of bytes given answer ∷ h) row line may (inl a) = omega (arith, may.0.0, a.1)
  asked-within shape most (Write at of bytes given answer ∷ h) row line may (inr a) = asked-within shape most h row line may.1 a
  asked-within shape most (Read at of answer ∷ h) row line may (inl a) = omega (arith, may.0.0, a.1)
  asked-within shape most (Read at of answer ∷ h) row line may (inr a) = asked-within shape most h row line may.1 a
  asked-within shape most (_ ∷ h) row line may a = asked-within shape most h row line may.1 a

  -- What stands in the queue

  pub pushed-stands : (es : List (Entry n)) (x : Entry n) (row line : ℕ) → Stands (es ++ x ∷ []) row line → Stands es row line ⊎ ((x.row ≡ row) × (x.line ≡ line))
  pushed-stands [] x row line (inl s) = inr s
  pushed-stands [] x row line (inr s) = absurd s
  pushed-stands (e ∷ es) x row line (inl s) = inl (inl s)
  pushed-stands (e ∷ es) x row line (inr s) = more (pushed-stands es x row line s)
    where
      more : Stands es row line ⊎ ((x.row ≡ row) × (x.line ≡ line)) → Stands (e ∷ es) row line ⊎ ((x.row ≡ row) × (x.line ≡ line))
      more (inl s) = inl (inr s)
      more (inr new) = inr new

  pub merged-stands : (old new : ℕ) (bytes : List ℕ) (given : List Bool) (es : List (Entry n)) (row line : ℕ) → Stands (merged old new bytes given es) row line
      → Stands es row line ⊎ ((new ≡ row) × Stands es old line)
  merged-stands old new bytes given [] row line s = absurd s
  merged-stands old new bytes given (e ∷ es) row line s = by (eqb e.row old) refl (λ t. merged-stands old new bytes given es row line t) s
    where
      more : Stands es row line ⊎ ((new ≡ row) × Stands es old line) → Stands (e ∷ es) row line ⊎ ((new ≡ row) × Stands (e ∷ es) old line)
      more (inl s) = inl (inr s)
      more (inr into) = inr (into.0, inr into.1)

      by : (same : Bool) → eqb e.row old ≡ same → (Stands (merged old new bytes given es) row line → Stands es row line ⊎ ((new ≡ row) × Stands es old line))
          → Stands (cond same (laid_on new bytes given e ∷ es) (e ∷ merged old new bytes given es)) row line → Stands (e ∷ es) row line ⊎ ((new ≡ row) × Stands (e ∷ es) old line)
      by true is go (inl s) = inr (s.0, inl (eqb-true e.row old is, s.1))
      by true is go (inr s) = inl (inr s)
      by false is go (inl s) = inl (inl s)
      by false is go (inr s) = more (go s)

  dropped-stands : (es : List (Entry n)) (row line : ℕ) → Stands (drop 1 es) row line → Stands es row line
  dropped-stands [] row line s = s
  dropped-stands (e ∷ es) row line s = inr s

  pub begun-stands : (due : Option ℕ) (f : ℕ → List ℕ) (es : List (Entry n)) (row line : ℕ) → Stands (begun due f es) row line → Stands es row line
  begun-stands due f es row line s = grind arith

  -- what stands in the queue was written, with its own line
  pub queue-wrote : (shape : BankShape) (most : ℕ) (h : List (BankEvent n)) (next row line : ℕ) → MayAll shape most h → RowsBelow h next → Stands (queue shape h) row line → Wrote h row line
  queue-wrote shape most [] next row line may b s = s
  queue-wrote shape most (Write at of bytes given wrote.Accepted ∷ h) next row line may b s = by (pushed-stands (queue shape h) _ row line s) (λ s. queue-wrote shape most h at row line may.1 b.1 s)
    where
      by : Stands (queue shape h) row line ⊎ ((at ≡ row) × (of ≡ line)) → (Stands (queue shape h) row line → Wrote h row line) → ((at ≡ row) × (of ≡ line)) ⊎ Wrote h row line
      by (inl s) go = inr (go s)
      by (inr new) go = inl new
  queue-wrote shape most (Write at of bytes given (wrote.Merged old) ∷ h) next row line may b s = by (merged-stands old at bytes given (queue shape h) row line s) (λ s. queue-wrote shape most h at row line may.1 b.1 s)
    where
      by : Stands (queue shape h) row line ⊎ ((at ≡ row) × Stands (queue shape h) old line) → (Stands (queue shape h) row line → Wrote h row line) → ((at ≡ row) × (of ≡ line)) ⊎ Wrote h row line
      by (inl s) go = inr (go s)
      by (inr new) go = inl (new.0, stands-one (queue shape h) old of line (stand_apart shape h at b.1).queued_apart (merges-stands shape h of old may.0.2) new.1)
  queue-wrote shape most (Write at of bytes given _ ∷ h) next row line may b s = inr (queue-wrote shape most h at row line may.1 b.1 s)
  queue-wrote shape most (Read at of answer ∷ h) next row line may b s = queue-wrote shape most h at row line may.1 b.1 s
  queue-wrote shape most (Begin (did.Stored at place) ∷ h) next row line may b s = queue-wrote shape most h next row line may.1 b (dropped-stands (queue shape h) row line s)
  queue-wrote shape most (Begin _ ∷ h) next row line may b s = queue-wrote shape most h next row line may.1 b (begun-stands _ _ (queue shape h) row line s)
  queue-wrote shape most (Iterate (did.Stored at place) ∷ h) next row line may b s = queue-wrote shape most h next row line may.1 b (dropped-stands (queue shape h) row line s)
  queue-wrote shape most (_ ∷ h) next row line may b s = queue-wrote shape most h next row line may.1 b s

-- a read of this row and line waits
abbrev pub WaitsFor : List Awaited → ℕ → ℕ → Type 0
WaitsFor [] row line = ⊥
WaitsFor (w ∷ ws) row line = ((w.row ≡ row) × (w.line ≡ line)) ⊎ WaitsFor ws row line

pushed-waits : (ws : List Awaited) (x : Awaited) (row line : ℕ) → WaitsFor (ws ++ x ∷ []) row line → WaitsFor ws row line ⊎ ((x.row ≡ row) × (x.line ≡ line))
pushed-waits [] x row line (inl s) = inr s
pushed-waits [] x row line (inr s) = absurd s
pushed-waits (w ∷ ws) x row line (inl s) = inl (inl s)
pushed-waits (w ∷ ws) x row line (inr s) = more (pushed-waits ws x row line s)
  where
    more : WaitsFor ws row line ⊎ ((x.row ≡ row) × (x.line ≡ line)) → WaitsFor (w ∷ ws) row line ⊎ ((x.row ≡ row) × (x.line ≡ line))
    more (inl s) = inl (inr s)
    more (inr new) = inr new

dropped-waits : (ws : List Awaited) (row line : ℕ) → WaitsFor (drop 1 ws) row line → WaitsFor ws row line
dropped-waits [] row line s = s
dropped-waits (w ∷ ws) row line s = inr s

-- what waits was asked for, with its own line
pub waits-asked : {n : ℕ} (shape : BankShape) (h : List (BankEvent n)) (row line : ℕ) → WaitsFor (waits shape h) row line → Asked h row line
waits-asked shape [] row line w = w
waits-asked shape (Read at of came.Waiting ∷ h) row line w = by (pushed-waits (waits shape h) _ row line w) (λ w. waits-asked shape h row line w)
  where
    by : WaitsFor (waits shape h) row line ⊎ ((at ≡ row) × (of ≡ line)) → (WaitsFor (waits shape h) row line → Asked h row line) → ((at ≡ row) × (of ≡ line)) ⊎ Asked h row line
    by (inl w) go = inr (go w)
    by (inr new) go = inl new
waits-asked shape (Serve answer ∷ h) row line w = waits-asked shape h row line (dropped-waits (waits shape h) row line w)
waits-asked shape (Begin answer ∷ h) row line w = waits-asked shape h row line w
waits-asked shape (Iterate answer ∷ h) row line w = waits-asked shape h row line w
waits-asked shape (Cut tearing ∷ h) row line w = absurd w
waits-asked shape (_ ∷ h) row line w = inr (waits-asked shape h row line w)
