-- A bank does one action at a time, and serves its reads in the order of their rows.
use Rattle.std.proofs.Common.{◌≡◌, ℕ, ◌+◌, ◌<◌, ◌≤◌, ◌==◌, ◌⊎◌, inl, inr, not, Bool, true, false, List, [], ◌∷◌, ◌++◌, Some, None, drop, refl, sym, ap, ◌∙◌, arith, cond, eqb, eqb-true}
use Rattle.std.{specs.Prelude.{unwrap_or, nat_le}, proofs.lemmas.Bool.{le-leb, ne_eqb, eq-eqb, or_left, or_right, leb-true, leb-false}}
use Rattle.result_rows.specs.declared.Outcome.{Outcome}
use Rattle.result_rows.specs.declared.Outcome.TheVariants as out
use Rattle.row_rules.specs.Ticking.{apart}
use Rattle.bank_shape.specs.declared.BankShape.{BankShape}
use Rattle.bank_shape.specs.declared.answer.ReadAnswer.TheVariants as came
use Rattle.bank_model.specs.{Events.{BankEvent, Write, Read, Serve, Cut, RowsBelow}, History.{Awaited, waits}}
use Rattle.bank_laws.{specs.Outcomes.{on_row, ended}, specs.Standing.has_wait, proofs.Entries.{either, no_wait-push}, proofs.Standing.stand_apart}

-- each of these reads is above those before it
abbrev pub Rising : List Awaited → Type 0
Rising [] = Unit {0}
Rising (w ∷ ws) = ((other : ℕ) → has_wait ws other ≡ true → w.row < other) × Rising ws

has-own : (ws : List Awaited) (w : Awaited) → has_wait (w ∷ ws) w.row ≡ true
has-own ws w = or_left (w.row == w.row) _ (eq-eqb w.row w.row refl)

rising-push : (ws : List Awaited) (v : Awaited) → Rising ws → ((other : ℕ) → has_wait ws other ≡ true → other < v.row) → Rising (ws ++ v ∷ [])
rising-push [] v r below = ((λ other there. absurd (cc)), tt)
rising-push (w ∷ ws) v r below = (above, rising-push ws v r.1 (λ other there. below other (or_right (w.row == other) _ there)))
  where
    above : (other : ℕ) → has_wait (ws ++ v ∷ []) other ≡ true → w.row < other
    above other there =
        either (has_wait ws other) (λ is. r.0 other is) (λ no. either (eqb v.row other)
        (λ same. let is : v.row ≡ other = eqb-true v.row other same in let up : w.row < v.row = below w.row (has-own ws w) in omega (arith, up, is))
        (λ ne. absurd (cc (no_wait-push ws v other no ne, there))))

module _ {n : ℕ} where
  pub waits_rise : (shape : BankShape) (h : List (BankEvent n)) (next : ℕ) → RowsBelow h next → Rising (waits shape h)
  waits_rise shape [] next b = tt
  waits_rise shape (Write row line bytes given answer ∷ h) next b = waits_rise shape h row b.1
  waits_rise shape (Read row line came.Waiting ∷ h) next b =
      rising-push (waits shape h) _ (waits_rise shape h row b.1)
      (λ other there. either (nat_le row other)
      (λ up. absurd (cc ((stand_apart shape h row b.1).waiting_below other (leb-true row other up), there)))
      (λ down. leb-false row other down))
  waits_rise shape (Read row line _ ∷ h) next b = waits_rise shape h row b.1
  waits_rise shape (Serve answer ∷ h) next b = rest (waits shape h) (waits_rise shape h next b)
    where
      rest : (ws : List Awaited) → Rising ws → Rising (drop 1 ws)
      rest ws r = grind arith
  waits_rise shape (Cut tearing ∷ h) next b = tt
  waits_rise shape (_ ∷ h) next b = waits_rise shape h next b

  -- an outcome that comes of the end of an action
  abbrev pub takes_time : Outcome n → Bool
  takes_time (out.Stored tick place) = true
  takes_time (out.Read tick place bytes) = true
  takes_time _ = false

  module _ (read : ℕ) where
    pub apart-left : (o q : Outcome n) → takes_time o ≡ false → apart read o q ≡ true
    apart-left o q h = grind arith

    -- an outcome beside a store or a read, by what it asks of their ticks
    stored-left : (t p : ℕ) (q : Outcome n) → ((u p : ℕ) → q ≡ out.Stored u p → u + read ≤ t) → ((u p : ℕ) (b : List ℕ) → q ≡ out.Read u p b → u < t) → apart read (out.Stored t p) q ≡ true
    stored-left t p (out.Stored at place) s r = or_right (nat_le (t + read) at) _ (le-leb (at + read) t (s at place refl))
    stored-left t p (out.Read at place bytes) s r = ap not (ne_eqb t at (λ same. let lt : at < t = r at place bytes refl in omega arith))
    stored-left t p _ s r = refl

    stored-right : (t p : ℕ) (q : Outcome n) → ((u p : ℕ) → q ≡ out.Stored u p → u + read ≤ t) → ((u p : ℕ) (b : List ℕ) → q ≡ out.Read u p b → u < t) → apart read q (out.Stored t p) ≡ true
    stored-right t p (out.Stored at place) s r = or_left (nat_le (at + read) t) _ (le-leb (at + read) t (s at place refl))
    stored-right t p (out.Read at place bytes) s r = ap not (ne_eqb at t (λ same. let lt : at < t = r at place bytes refl in omega arith))
    stored-right t p _ s r = refl

    read-left : (t p : ℕ) (b : List ℕ) (q : Outcome n) → ((u p : ℕ) → q ≡ out.Stored u p → u < t) → ((u p : ℕ) (b : List ℕ) → q ≡ out.Read u p b → u + read ≤ t) → apart read (out.Read t p b) q ≡ true
    read-left t p b (out.Stored at place) s r = ap not (ne_eqb t at (λ same. let lt : at < t = s at place refl in omega arith))
    read-left t p b (out.Read at place bytes) s r = le-leb (at + read) t (r at place bytes refl)
    read-left t p b _ s r = refl

    read-right : (t p : ℕ) (b : List ℕ) (q : Outcome n) → ((u p : ℕ) → q ≡ out.Stored u p → u < t) → ((u p : ℕ) (b : List ℕ) → q ≡ out.Read u p b → ⊥) → apart read q (out.Read t p b) ≡ true
    read-right t p b (out.Stored at place) s r = ap not (ne_eqb at t (λ same. let lt : at < t = s at place refl in omega arith))
    read-right t p b (out.Read at place bytes) s r = absurd (r at place bytes refl)
    read-right t p b _ s r = refl

    pub apart-right : (o q : Outcome n) → takes_time q ≡ false → apart read o q ≡ true
    apart-right (out.Stored at place) q h = stored-left at place q (λ u p is. absurd (cc (h, ap takes_time is))) (λ u p b is. absurd (cc (h, ap takes_time is)))
    apart-right (out.Read at place bytes) q h = read-left at place bytes q (λ u p is. absurd (cc (h, ap takes_time is))) (λ u p b is. absurd (cc (h, ap takes_time is)))
    apart-right _ q h = refl

    pub ended-left : (tick : ℕ) (o q : Outcome n) → apart read o q ≡ true → apart read (ended tick o) q ≡ true
    ended-left tick o q h = grind arith

    pub ended-right : (tick : ℕ) (o q : Outcome n) → apart read o q ≡ true → apart read o (ended tick q) ≡ true
    ended-right tick o out.Unset h = apart-right o (out.Queued tick) refl
    ended-right tick o _ h = h

-- what some outcomes are to the reads that wait, to whether a line write is in progress, and to the first tick of what runs
pub record AreSpaced {n : ℕ} (read : ℕ) (o : ℕ → Outcome n) (top : ℕ) (busy : Bool) (ws : List Awaited) : Type 0 where
  pub stores : (row u p : ℕ) → o row ≡ out.Stored u p → u ≤ top
  pub writing : busy ≡ true → (row u p : ℕ) → o row ≡ out.Stored u p → u + read ≤ top
  pub reads : (row u p : ℕ) (b : List ℕ) → o row ≡ out.Read u p b → u ≤ top
  pub order : (row u p : ℕ) (b : List ℕ) (other : ℕ) → o row ≡ out.Read u p b → has_wait ws other ≡ true → row < other
  pub pairs : (lower upper : ℕ) → lower < upper → apart read (o upper) (o lower) ≡ true

module _ {n : ℕ} (read : ℕ) (o : ℕ → Outcome n) (top : ℕ) (busy : Bool) (ws : List Awaited) (s : AreSpaced read o top busy ws) where
  -- an event that ends no action for a row
  abbrev pub Plain : (ℕ → Outcome n) → Type 0
  Plain new = (row : ℕ) → (new row ≡ o row) ⊎ (takes_time (new row) ≡ false)

  pub plain : (new : ℕ → Outcome n) (up : ℕ) (next : Bool) (more : List Awaited) → Plain new → top ≤ up → (next ≡ true → (busy ≡ true) ⊎ (top + read ≤ up))
      → ((other : ℕ) → has_wait more other ≡ true → (has_wait ws other ≡ true) ⊎ ((row u p : ℕ) (b : List ℕ) → o row ≡ out.Read u p b → row < other))
      → AreSpaced read new up next more
  plain new up next more same le wr there = record {
    stores = λ row u p is. let h : u ≤ top = s.stores row u p (was_stored row u p is (same row)) in omega (arith, h, le);
    writing = λ is row u p k. write (wr is) row u p (was_stored row u p k (same row));
    reads = λ row u p b is. let h : u ≤ top = s.reads row u p b (was_read row u p b is (same row)) in omega (arith, h, le);
    order = λ row u p b other is w. ordered (there other w) row u p b (was_read row u p b is (same row));
    pairs = λ lower upper lt. pair lower upper lt (same upper) (same lower);
  }
    where
      was_stored : (row u p : ℕ) → new row ≡ out.Stored u p → (new row ≡ o row) ⊎ (takes_time (new row) ≡ false) → o row ≡ out.Stored u p
      was_stored row u p is (inl k) = sym k ∙ is
      was_stored row u p is (inr k) = let t : takes_time (new row) ≡ true = ap takes_time is in absurd (cc)

      was_read : (row u p : ℕ) (b : List ℕ) → new row ≡ out.Read u p b → (new row ≡ o row) ⊎ (takes_time (new row) ≡ false) → o row ≡ out.Read u p b
      was_read row u p b is (inl k) = sym k ∙ is
      was_read row u p b is (inr k) = let t : takes_time (new row) ≡ true = ap takes_time is in absurd (cc)

      write : (busy ≡ true) ⊎ (top + read ≤ up) → (row u p : ℕ) → o row ≡ out.Stored u p → u + read ≤ up
      write (inl is) row u p k = let h : u + read ≤ top = s.writing is row u p k in omega (arith, h, le)
      write (inr far) row u p k = let h : u ≤ top = s.stores row u p k in omega (arith, h, far)

      ordered : {other : ℕ} → (has_wait ws other ≡ true) ⊎ ((row u p : ℕ) (b : List ℕ) → o row ≡ out.Read u p b → row < other) → (row u p : ℕ) (b : List ℕ) → o row ≡ out.Read u p b → row < other
      ordered {other} (inl w) row u p b is = s.order row u p b other is w
      ordered (inr below) row u p b is = below row u p b is

      pair : (lower upper : ℕ) → lower < upper → (new upper ≡ o upper) ⊎ (takes_time (new upper) ≡ false) → (new lower ≡ o lower) ⊎ (takes_time (new lower) ≡ false) → apart read (new upper) (new lower) ≡ true
      pair lower upper lt (inr k) b = apart-left read (new upper) (new lower) k
      pair lower upper lt (inl k) (inr j) = apart-right read (new upper) (new lower) j
      pair lower upper lt (inl k) (inl j) = ap (λ (q : Outcome n). apart read q (new lower)) k ∙ ap (apart read (o upper)) j ∙ s.pairs lower upper lt

  abbrev pub with : ℕ → Outcome n → ℕ → Outcome n
  with at t row = unwrap_or (on_row at row t) (o row)

  -- a row is stored
  pub stored : (at tick place : ℕ) → 1 ≤ read → top < tick → (top + read ≤ tick) ⊎ (busy ≡ true) → AreSpaced read (with at (out.Stored tick place)) tick false ws
  stored at tick place some late how = record {
    stores = λ row u p is. was_stored row u p (eqb at row) is;
    writing = λ is. absurd (cc);
    reads = λ row u p b is. let h : u ≤ top = s.reads row u p b (was_read row u p b (eqb at row) is) in omega (arith, h, late);
    order = λ row u p b other is w. s.order row u p b other (was_read row u p b (eqb at row) is) w;
    pairs = λ lower upper lt. pair lower upper lt (eqb at upper) (eqb at lower) refl refl;
  }
    where
      was_stored : (row u p : ℕ) (b : Bool) → unwrap_or (cond b (Some (out.Stored tick place)) None) (o row) ≡ out.Stored u p → u ≤ tick
      was_stored row u p true is = let same : tick ≡ u = cc in omega (arith, same)
      was_stored row u p false is = let h : u ≤ top = s.stores row u p is in omega (arith, h, late)

      was_read : (row u p : ℕ) (b : List ℕ) (c : Bool) → unwrap_or (cond c (Some (out.Stored tick place)) None) (o row) ≡ out.Read u p b → o row ≡ out.Read u p b
      was_read row u p b c is = grind arith

      far : (row u p : ℕ) → o row ≡ out.Stored u p → u + read ≤ tick
      far row u p is = by how
        where
          by : (top + read ≤ tick) ⊎ (busy ≡ true) → u + read ≤ tick
          by (inl up) = let h : u ≤ top = s.stores row u p is in omega (arith, h, up)
          by (inr wr) = let h : u + read ≤ top = s.writing wr row u p is in omega (arith, h, late)

      before : (row u p : ℕ) (b : List ℕ) → o row ≡ out.Read u p b → u < tick
      before row u p b is = let h : u ≤ top = s.reads row u p b is in omega (arith, h, late)

      pair : (lower upper : ℕ) → lower < upper → (b c : Bool) → eqb at upper ≡ b → eqb at lower ≡ c
          → apart read (unwrap_or (cond b (Some (out.Stored tick place)) None) (o upper)) (unwrap_or (cond c (Some (out.Stored tick place)) None) (o lower)) ≡ true
      pair lower upper lt true true is js = let same : at ≡ upper = eqb-true at upper is in let other : at ≡ lower = eqb-true at lower js in absurd (omega (arith, same, other, lt))
      pair lower upper lt true false is js = stored-left read tick place (o lower) (far lower) (before lower)
      pair lower upper lt false true is js = stored-right read tick place (o upper) (far upper) (before upper)
      pair lower upper lt false false is js = s.pairs lower upper lt

-- the first read that waits is read
pub served : {n : ℕ} (read : ℕ) (o : ℕ → Outcome n) (top : ℕ) (busy : Bool) (w : Awaited) (ws : List Awaited) → AreSpaced read o top busy (w ∷ ws) → (at tick place : ℕ) (bytes : List ℕ) → 1 ≤ read → at ≡ w.row → tick ≡ top + read
    → ((other : ℕ) → has_wait ws other ≡ true → w.row < other) → AreSpaced read (λ row. unwrap_or (on_row at row (out.Read tick place bytes)) (o row)) tick busy ws
served {n} read o top busy w ws s at tick place bytes some first end rising = record {
  stores = λ row u p is. let h : u ≤ top = s.stores row u p (was_stored row u p (eqb at row) is) in omega (arith, h, end);
  writing = λ wr row u p is. let h : u + read ≤ top = s.writing wr row u p (was_stored row u p (eqb at row) is) in omega (arith, h, end);
  reads = λ row u p b is. was_read row u p b (eqb at row) is;
  order = λ row u p b other is there. ordered row u p b other (eqb at row) refl is there;
  pairs = λ lower upper lt. pair lower upper lt (eqb at upper) (eqb at lower) refl refl;
}
  where
    was_stored : (row u p : ℕ) (c : Bool) → unwrap_or (cond c (Some (out.Read tick place bytes)) None) (o row) ≡ out.Stored u p → o row ≡ out.Stored u p
    was_stored row u p c is = grind arith

    was_read : (row u p : ℕ) (b : List ℕ) (c : Bool) → unwrap_or (cond c (Some (out.Read tick place bytes)) None) (o row) ≡ out.Read u p b → u ≤ tick
    was_read row u p b true is = let same : tick ≡ u = cc in omega (arith, same)
    was_read row u p b false is = let h : u ≤ top = s.reads row u p b is in omega (arith, h, end)

    ordered : (row u p : ℕ) (b : List ℕ) (other : ℕ) (c : Bool) → eqb at row ≡ c → unwrap_or (cond c (Some (out.Read tick place bytes)) None) (o row) ≡ out.Read u p b → has_wait ws other ≡ true → row < other
    ordered row u p b other true same is there = let own : at ≡ row = eqb-true at row same in let lt : w.row < other = rising other there in omega (arith, own, lt, first)
    ordered row u p b other false same is there = s.order row u p b other is (or_right (w.row == other) _ there)

    earlier : (row u p : ℕ) → o row ≡ out.Stored u p → u < tick
    earlier row u p is = let h : u ≤ top = s.stores row u p is in omega (arith, h, end, some)

    far : (row u p : ℕ) (b : List ℕ) → o row ≡ out.Read u p b → u + read ≤ tick
    far row u p b is = let h : u ≤ top = s.reads row u p b is in omega (arith, h, end)

    pair : (lower upper : ℕ) → lower < upper → (b c : Bool) → eqb at upper ≡ b → eqb at lower ≡ c
        → apart read (unwrap_or (cond b (Some (out.Read tick place bytes)) None) (o upper)) (unwrap_or (cond c (Some (out.Read tick place bytes)) None) (o lower)) ≡ true
    pair lower upper lt true true is js = let same : at ≡ upper = eqb-true at upper is in let other : at ≡ lower = eqb-true at lower js in absurd (omega (arith, same, other, lt))
    pair lower upper lt true false is js = read-left read tick place bytes (o lower) (earlier lower) (far lower)
    pair lower upper lt false true is js =
        read-right read tick place bytes (o upper) (earlier upper) (λ u p b k.
        let own : at ≡ lower = eqb-true at lower js in
        let under : upper < w.row = s.order upper u p b w.row k (has-own ws w) in
        absurd (omega (arith, own, under, first, lt)))
    pair lower upper lt false false is js = s.pairs lower upper lt
