-- After any events that a bank allows, the queue's entries give of each line what its writes give, down to the last that was stored.
use Rattle.std.proofs.Common.{◌≡◌, ℕ, ◌<◌, ◌≤◌, ◌==◌, Bool, true, false, List, [], ◌∷◌, Some, drop, refl, sym, ap, subst, arith, cond, eqb-true, eq-eqb}
use Rattle.masked_bytes.{specs.Entries.{newest_row, has_row}, specs.Masked.{joined, none_given}, specs.declared.entry.Entry.Entry, proofs.Queueing.candidate-newest}
use Rattle.bank_shape.specs.declared.BankShape.{BankShape}
use Rattle.bank_shape.specs.declared.answer.WriteAnswer.TheVariants as wrote
use Rattle.bank_shape.specs.declared.answer.Step.TheVariants as did
use Rattle.bank_model.specs.{Answers.{MayAll, head_busy_after}, Events.{BankEvent, Write, Read, Begin, Iterate, RowsBelow, line_of_row, newest}, History.{queue, due_after}}
use Rattle.bank_laws.proofs.{Answering.{IsHead, head-there, stored-head}, Entries.either, Lines.merged-candidate, Pairs.keeps_pairs, Standing.stand_apart}
use Rattle.log_laws.proofs.Fitting.{out_with, out_with-not, Grows, Fits, fits-push, fits-push_other, fits-merged, fits-merged_other, fits-begun, fits-drop}
use Rattle.log_laws.proofs.Naming.{Named, named-push, named-drop, named-begun, named-too, named-merged}

-- what a line's writes give with one more
abbrev pub uncovered_by : (n : ℕ) → Bool → Bool → List Bool → List Bool → List Bool
uncovered_by n own out given rest = cond own (cond out (none_given n) (joined given rest)) rest

module _ {n : ℕ} where
  -- the bytes of a line that its accepted writes give, down to the last that is out
  abbrev pub uncovered : (ℕ → Bool) → ℕ → List (BankEvent n) → List Bool
  uncovered out line [] = none_given n
  uncovered out line (Write row at bytes given wrote.Accepted ∷ h) = uncovered_by n (at == line) (out row) given (uncovered out line h)
  uncovered out line (Write row at bytes given (wrote.Merged old) ∷ h) = uncovered_by n (at == line) (out row) given (uncovered out line h)
  uncovered out line (_ ∷ h) = uncovered out line h

  -- the rows of a line that were stored
  abbrev pub out_in : ℕ → List (BankEvent n) → ℕ → Bool
  out_in line [] = λ row. false
  out_in line (Begin (did.Stored row place) ∷ h) = out_with (line_of_row row h == line) (out_in line h) row
  out_in line (Iterate (did.Stored row place) ∷ h) = out_with (line_of_row row h == line) (out_in line h) row
  out_in line (_ ∷ h) = out_in line h

  grows : (own : Bool) (row : ℕ) (given : List Bool) (old : (ℕ → Bool) → List Bool) → own ≡ true → Grows n (λ out. uncovered_by n own (out row) given (old out)) old row given
  grows true row given old is = record {
    more = λ out fresh. ap (λ b. cond b (none_given n) (joined given (old out))) fresh;
    gone = λ out there. ap (λ b. cond b (none_given n) (joined given (old out))) there;
  }
  grows false row given old is = absurd (cc)

  -- a store takes the head away
  fits-store : (f : ℕ → ℕ) (u : (ℕ → Bool) → List Bool) (out : ℕ → Bool) (line at : ℕ) (es : List (Entry n)) → IsHead es at → Named f es → Fits u out line es → Fits u (out_with (f at == line) out at) line (drop 1 es)
  fits-store f u out line at [] head k t = absurd head
  fits-store f u out line at (e ∷ es) head k t =
      subst (λ r. Fits u (out_with (f r == line) out r) line es) (sym head)
      (subst (λ l. Fits u (out_with (l == line) out e.row) line es) (sym k.0) (fits-drop u out line e es t))

module _ {n : ℕ} (shape : BankShape) where
  head-not : (h : List (BankEvent n)) (bound at r : ℕ) → RowsBelow h bound → IsHead (queue shape h) at → bound ≤ r → (at == r) ≡ false
  head-not h bound at r below head le =
      either (at == r)
      (λ same.
      let there : has_row (queue shape h) at ≡ true = head-there (queue shape h) at head in
      let lacks : has_row (queue shape h) r ≡ false = (stand_apart shape h bound below).queued_below r le in
      absurd (cc (subst (λ k. has_row (queue shape h) k ≡ true) (eqb-true at r same) there, lacks))) (λ isnt. isnt)

  -- no row is stored before it came
  pub out-fresh : (most : ℕ) (h : List (BankEvent n)) (bound line r : ℕ) → MayAll shape most h → RowsBelow h bound → bound ≤ r → out_in line h r ≡ false
  out-fresh most [] bound line r m below le = refl
  out-fresh most (Write row at bytes given answer ∷ h) bound line r m below le = let lt : row < bound = below.0 in out-fresh most h row line r m.1 below.1 (omega arith)
  out-fresh most (Read row at answer ∷ h) bound line r m below le = let lt : row < bound = below.0 in out-fresh most h row line r m.1 below.1 (omega arith)
  out-fresh most (Begin (did.Stored row place) ∷ h) bound line r m below le =
      out_with-not (line_of_row row h == line) (out_in line h) row r (out-fresh most h bound line r m.1 below le) (head-not h bound row r below (stored-head shape h row place m.0.1) le)
  out-fresh most (Iterate (did.Stored row place) ∷ h) bound line r m below le =
      out_with-not (line_of_row row h == line) (out_in line h) row r (out-fresh most h bound line r m.1 below le) (head-not h bound row r below (stored-head shape h row place m.0.1) le)
  out-fresh most (_ ∷ h) bound line r m below le = out-fresh most h bound line r m.1 below le

  -- the entries have the lines of their rows, and give what the writes give
  pub record FitsAfter (h : List (BankEvent n)) : Type 0 where
    pub named : Named (λ row. line_of_row row h) (queue shape h)
    pub fits : (line : ℕ) → Fits (λ out. uncovered out line h) (out_in line h) line (queue shape h)

  pub fits-after : (most : ℕ) (h : List (BankEvent n)) (bound : ℕ) → MayAll shape most h → RowsBelow h bound → FitsAfter h
  fits-after most [] bound m below = record { named = tt; fits = λ line. refl }
  fits-after most (Write row at bytes given wrote.Accepted ∷ h) bound m below =
      let k = fits-after most h row m.1 below.1 in
      let stand = stand_apart shape h row below.1 in
      let pairs = keeps_pairs shape most h m.1 in
      let lacks : has_row (queue shape h) row ≡ false = stand.queued_below row (omega arith) in
      record {
        named = named-push (λ r. line_of_row r (Write row at bytes given wrote.Accepted ∷ h)) (queue shape h) _ (named-too (λ r. line_of_row r h) row at (queue shape h) lacks k.named) (ap (λ b. cond b at (line_of_row row h)) (eq-eqb row row refl));
        fits = λ line.
            either (at == line)
            (λ own.
            fits-push (λ out. uncovered_by n (at == line) (out row) given (uncovered out line h)) (λ out. uncovered out line h) (out_in line h) line (record { row = row; line = at; bytes = bytes; given = given }) (queue shape h)
            (grows (at == line) row given (λ out. uncovered out line h) own) pairs.long m.0.1.given_len own lacks (out-fresh most h row line row m.1 below.1 (omega arith)) (k.fits line))
            (λ other.
            fits-push_other (λ out. uncovered_by n (at == line) (out row) given (uncovered out line h)) (out_in line h) line (record { row = row; line = at; bytes = bytes; given = given }) (queue shape h) other
            (subst (λ b. Fits (λ out. uncovered_by n b (out row) given (uncovered out line h)) (out_in line h) line (queue shape h)) (sym other) (k.fits line)));
      }
  fits-after most (Write row at bytes given (wrote.Merged old) ∷ h) bound m below =
      let k = fits-after most h row m.1 below.1 in
      let stand = stand_apart shape h row below.1 in
      let pairs = keeps_pairs shape most h m.1 in
      let lacks : has_row (queue shape h) row ≡ false = stand.queued_below row (omega arith) in
      let newest_is : newest_row (queue shape h) at ≡ Some old = candidate-newest (head_busy_after shape h) (queue shape h) at old (merged-candidate shape h at old m.0.2) in
      record {
        named =
            named-merged (λ r. line_of_row r (Write row at bytes given (wrote.Merged old) ∷ h)) at old row bytes given (queue shape h) stand.queued_apart newest_is (ap (λ b. cond b at (line_of_row row h)) (eq-eqb row row refl))
            (named-too (λ r. line_of_row r h) row at (queue shape h) lacks k.named);
        fits = λ line.
            either (at == line)
            (λ own.
            fits-merged (λ out. uncovered_by n (at == line) (out row) given (uncovered out line h)) (λ out. uncovered out line h) (out_in line h) line old row bytes given (queue shape h)
            (grows (at == line) row given (λ out. uncovered out line h) own) pairs.long m.0.1.given_len stand.queued_apart (subst (λ l. newest_row (queue shape h) l ≡ Some old) (eqb-true at line own) newest_is) lacks
            (out-fresh most h row line row m.1 below.1 (omega arith)) (k.fits line))
            (λ other.
            fits-merged_other (λ out. uncovered_by n (at == line) (out row) given (uncovered out line h)) (out_in line h) at line old row bytes given (queue shape h) stand.queued_apart newest_is other
            (subst (λ b. Fits (λ out. uncovered_by n b (out row) given (uncovered out line h)) (out_in line h) line (queue shape h)) (sym other) (k.fits line)));
      }
  fits-after most (Write row at bytes given _ ∷ h) bound m below =
      let k = fits-after most h row m.1 below.1 in
      record { named = named-too (λ r. line_of_row r h) row at (queue shape h) ((stand_apart shape h row below.1).queued_below row (omega arith)) k.named; fits = k.fits }
  fits-after most (Read row at answer ∷ h) bound m below = let k = fits-after most h row m.1 below.1 in record { named = k.named; fits = k.fits }
  fits-after most (Begin (did.Stored row place) ∷ h) bound m below =
      let k = fits-after most h bound m.1 below in
      let head : IsHead (queue shape h) row = stored-head shape h row place m.0.1 in
      record {
        named = named-drop (λ r. line_of_row r h) (queue shape h) k.named;
        fits = λ line. fits-store (λ r. line_of_row r h) (λ out. uncovered out line h) (out_in line h) line row (queue shape h) head k.named (k.fits line);
      }
  fits-after most (Begin _ ∷ h) bound m below =
      let k = fits-after most h bound m.1 below in
      record {
        named = named-begun (λ r. line_of_row r h) (due_after shape h) (newest h) (queue shape h) k.named;
        fits = λ line. fits-begun (λ out. uncovered out line h) (out_in line h) line (due_after shape h) (newest h) (queue shape h) (keeps_pairs shape most h m.1).long (k.fits line);
      }
  fits-after most (Iterate (did.Stored row place) ∷ h) bound m below =
      let k = fits-after most h bound m.1 below in
      let head : IsHead (queue shape h) row = stored-head shape h row place m.0.1 in
      record {
        named = named-drop (λ r. line_of_row r h) (queue shape h) k.named;
        fits = λ line. fits-store (λ r. line_of_row r h) (λ out. uncovered out line h) (out_in line h) line row (queue shape h) head k.named (k.fits line);
      }
  fits-after most (_ ∷ h) bound m below = let k = fits-after most h bound m.1 below in record { named = k.named; fits = k.fits }
