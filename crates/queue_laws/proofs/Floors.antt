-- What the accepted writes of a line from a row on give, and the row behind the last stored one.
use Rattle.std.proofs.Common.{◌≡◌, ℕ, ◌<◌, ◌≤◌, ◌==◌, ◌&&◌, ◌⊎◌, inl, inr, Bool, true, false, suc, List, [], ◌∷◌, refl, sym, ap, ◌∙◌, subst, arith, cond, eqb, eqb-true}
use Rattle.std.{specs.Prelude.nat_le, proofs.lemmas.Bool.{eq-eqb, le-leb, lt-leb, and_left, and_right, and_from}}
use Rattle.result_rows.specs.declared.Outcome.{Outcome}
use Rattle.result_rows.specs.declared.Outcome.TheVariants as out
use Rattle.masked_bytes.specs.Masked.{joined, none_given}
use Rattle.row_rules.specs.Answers.{is_stored}
use Rattle.bank_model.specs.Events.{BankEvent, Write, Read, RowsBelow}
use Rattle.bank_laws.proofs.{Asked.{Wrote, wrote-below}, Ending.accepting}

since-skip : (b : Bool) (given rest : List Bool) → b ≡ false → cond b (joined given rest) rest ≡ rest
since-skip b given rest h = grind arith

pub floor-skip : (b : Bool) (row rest : ℕ) → b ≡ false → cond b (suc row) rest ≡ rest
floor-skip b row rest h = grind arith

-- a write of the line adds its bytes, where its row is not below the floor
pub since-joins : (given rest : List Bool) (answer : Bool) (at row line floor : ℕ) → answer ≡ true → (at == line) ≡ true → floor ≤ row → cond (answer && (at == line && nat_le floor row)) (joined given rest) rest ≡ joined given rest
since-joins given rest answer at row line floor acc is le = by answer (eqb at line) (nat_le floor row) acc is (le-leb floor row le)
  where
    by : (a b c : Bool) → a ≡ true → b ≡ true → c ≡ true → cond (a && (b && c)) (joined given rest) rest ≡ joined given rest
    by a b c a3 b4 c5 = grind arith

-- and one of another line adds none
pub since-other : (given rest : List Bool) (answer : Bool) (at row line floor : ℕ) → (at == line) ≡ false → cond (answer && (at == line && nat_le floor row)) (joined given rest) rest ≡ rest
since-other given rest answer at row line floor ne = since-skip (answer && (at == line && nat_le floor row)) given rest (and_right answer _ (and_left (at == line) _ ne))

module _ {n : ℕ} where
  -- the bytes that the accepted writes of a line give whose rows are this number or more
  abbrev pub since : List (BankEvent n) → ℕ → ℕ → List Bool
  since [] line floor = none_given n
  since (Write row at bytes given answer ∷ h) line floor = cond (accepting answer && (at == line && nat_le floor row)) (joined given (since h line floor)) (since h line floor)
  since (_ ∷ h) line floor = since h line floor

  -- the number behind the newest row of a line that is stored by these outcomes, or 0
  abbrev pub floor_of : (ℕ → Outcome n) → List (BankEvent n) → ℕ → ℕ
  floor_of o [] line = 0
  floor_of o (Write row at bytes given answer ∷ h) line = cond (at == line && is_stored (o row)) (suc row) (floor_of o h line)
  floor_of o (_ ∷ h) line = floor_of o h line

  -- What the writes give

  -- from a number above all rows on nothing is given
  pub since-none : (h : List (BankEvent n)) (bound line floor : ℕ) → RowsBelow h bound → bound ≤ floor → since h line floor ≡ none_given n
  since-none [] bound line floor r le = refl
  since-none (Write at l bytes given answer ∷ h) bound line floor r le =
      since-skip (accepting answer && (l == line && nat_le floor at)) given (since h line floor) (and_right (accepting answer) _ (and_right (l == line) _ (lt-leb floor at (omega (arith, r.0, le)))))
      ∙ since-none h at line floor r.1 (omega (arith, r.0, le))
  since-none (Read at l answer ∷ h) bound line floor r le = since-none h at line floor r.1 (omega (arith, r.0, le))
  since-none (_ ∷ h) bound line floor r le = since-none h bound line floor r le

  -- The floor

  pub floor-bound : (o : ℕ → Outcome n) (h : List (BankEvent n)) (bound line : ℕ) → RowsBelow h bound → floor_of o h line ≤ bound
  floor-bound o [] bound line r = omega arith
  floor-bound o (Write at l bytes given answer ∷ h) bound line r = by (l == line && is_stored (o at)) (floor-bound o h at line r.1)
    where
      by : (b : Bool) → floor_of o h line ≤ at → cond b (suc at) (floor_of o h line) ≤ bound
      by true le = omega (arith, r.0)
      by false le = omega (arith, r.0, le)
  floor-bound o (Read at l answer ∷ h) bound line r = let le : floor_of o h line ≤ at = floor-bound o h at line r.1 in omega (arith, le, r.0)
  floor-bound o (_ ∷ h) bound line r = floor-bound o h bound line r

  -- outcomes that agree on which rows of the line are stored leave one floor
  pub floor-agree : (o p : ℕ → Outcome n) (h : List (BankEvent n)) (line : ℕ) → ((row l : ℕ) → Wrote h row l → (l == line) ≡ true → is_stored (p row) ≡ is_stored (o row)) → floor_of p h line ≡ floor_of o h line
  floor-agree o p [] line same = refl
  floor-agree o p (Write at l bytes given answer ∷ h) line same = by (eqb l line) (same at l (inl (refl, refl))) (floor-agree o p h line (λ row k a is. same row k (inr a) is))
    where
      by : (b : Bool) → (b ≡ true → is_stored (p at) ≡ is_stored (o at)) → floor_of p h line ≡ floor_of o h line → cond (b && is_stored (p at)) (suc at) (floor_of p h line) ≡ cond (b && is_stored (o at)) (suc at) (floor_of o h line)
      by true own rest = ap (λ k. cond k (suc at) (floor_of p h line)) (own refl) ∙ ap (λ k. cond (is_stored (o at)) (suc at) k) rest
      by false own rest = rest
  floor-agree o p (_ ∷ h) line same = floor-agree o p h line same

  -- a stored row of the line is below the floor
  pub floor-above : (o : ℕ → Outcome n) (h : List (BankEvent n)) (bound row line : ℕ) → RowsBelow h bound → Wrote h row line → is_stored (o row) ≡ true → row < floor_of o h line
  floor-above o [] bound row line r a s = absurd a
  floor-above o (Write at l bytes given answer ∷ h) bound row line r a s = by (l == line && is_stored (o at)) refl a (λ a. floor-above o h at row line r.1 a s)
    where
      by : (b : Bool) → (l == line && is_stored (o at)) ≡ b → ((at ≡ row) × (l ≡ line)) ⊎ Wrote h row line → (Wrote h row line → row < floor_of o h line) → row < cond b (suc at) (floor_of o h line)
      by true is (inl k) go = omega (arith, k.0)
      by true is (inr k) go = let less : row < at = wrote-below h at row line r.1 k in omega (arith, less)
      by false is (inl k) go =
          absurd
          (cc (
            is,
            and_from (l == line) (is_stored (o at)) (eq-eqb l line k.1)
                (subst (λ r. is_stored (o r) ≡ true) (sym k.0) s),
          ))
      by false is (inr k) go = go k
  floor-above o (Read at l answer ∷ h) bound row line r a s = floor-above o h at row line r.1 a s
  floor-above o (_ ∷ h) bound row line r a s = floor-above o h bound row line r a s

  -- where no later row of the line is stored, the floor is behind a stored row
  pub floor-own : (o : ℕ → Outcome n) (h : List (BankEvent n)) (bound row line : ℕ) → RowsBelow h bound → Wrote h row line → is_stored (o row) ≡ true
      → ((at : ℕ) → Wrote h at line → row < at → is_stored (o at) ≡ false) → floor_of o h line ≡ suc row
  floor-own o [] bound row line r a s none = absurd a
  floor-own o (Write at l bytes given answer ∷ h) bound row line r a s none = by (eqb l line) refl a (λ k. floor-own o h at row line r.1 k s (λ q j lt. none q (inr j) lt))
    where
      by : (b : Bool) → eqb l line ≡ b → ((at ≡ row) × (l ≡ line)) ⊎ Wrote h row line → (Wrote h row line → floor_of o h line ≡ suc row) → cond (b && is_stored (o at)) (suc at) (floor_of o h line) ≡ suc row
      by true is (inl k) go = ap (λ b. cond b (suc at) (floor_of o h line)) (subst (λ r. is_stored (o r) ≡ true) (sym k.0) s) ∙ ap suc k.0
      by true is (inr k) go =
          ap (λ b. cond b (suc at) (floor_of o h line)) (none at (inl (refl, eqb-true l line is)) (wrote-below h at row line r.1 k)) ∙ go k
      by false is (inl k) go = absurd (cc (is, eq-eqb l line k.1))
      by false is (inr k) go = go k
  floor-own o (Read at l answer ∷ h) bound row line r a s none = floor-own o h at row line r.1 a s none
  floor-own o (_ ∷ h) bound row line r a s none = floor-own o h bound row line r a s none

  pub floor-new : (o : ℕ → Outcome n) (h : List (BankEvent n)) (row at line : ℕ) → is_stored (o row) ≡ false → cond (at == line && is_stored (o row)) (suc row) (floor_of o h line) ≡ floor_of o h line
  floor-new o h row at line s = floor-skip (at == line && is_stored (o row)) row (floor_of o h line) (and_right (at == line) _ s)

  -- Stored or not

  pub stored_case : (o : Outcome n) → ((u : ℕ) × (p : ℕ) × (o ≡ out.Stored u p)) ⊎ (is_stored o ≡ false)
  stored_case (out.Stored at place) = inl (at, place, refl)
  stored_case _ = inr refl

  -- outcomes of which one is stored where the other is
  pub stored-agree : (o q : Outcome n) → ((u p : ℕ) → q ≡ out.Stored u p → o ≡ out.Stored u p) → ((u p : ℕ) → o ≡ out.Stored u p → q ≡ out.Stored u p) → is_stored q ≡ is_stored o
  stored-agree o q back on = by (stored_case q) (stored_case o)
    where
      by : ((u : ℕ) × (p : ℕ) × (q ≡ out.Stored u p)) ⊎ (is_stored q ≡ false) → ((u : ℕ) × (p : ℕ) × (o ≡ out.Stored u p)) ⊎ (is_stored o ≡ false) → is_stored q ≡ is_stored o
      by x0 k = grind arith
