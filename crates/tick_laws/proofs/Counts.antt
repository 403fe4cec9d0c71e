-- What ended over some events is counted among the rows.
use Rattle.std.proofs.Common.{◌≡◌, ◌≢◌, ℕ, ◌+◌, ◌≤◌, ◌==◌, ◌&&◌, ◌||◌, ◌⊎◌, inl, inr, suc, Bool, true, false, List, [], ◌∷◌, ◌++◌, refl, sym, ap, ◌∙◌, subst, arith, cond, eqb, eqb-true, append_assoc}
use Rattle.std.{specs.Prelude.{nat_le, count_by}, proofs.lemmas.Bool.{le-leb, or_right}}
use Rattle.masked_bytes.proofs.Counting.{count-cons, count-append}
use Rattle.result_rows.specs.declared.Outcome.{Outcome}
use Rattle.result_rows.specs.declared.Outcome.TheVariants as out
use Rattle.row_rules.specs.{Rows.{asks_read, asks_write}, Ticking.cuts_to, declared.Asks.TheVariants.{Reads, Writes, Cuts}, declared.Row.Row}
use Rattle.bank_shape.specs.{declared.BankShape.BankShape, declared.pace.Pace.Pace}
use Rattle.bank_model.specs.{Events.{Write, Read, Cut}, Lawful.Lawful, Timing.{Happens, Core, TimedEvent, last_tick}}
use Rattle.bank_laws.{specs.Outcomes.{outcome_of, ended, row_with, rows_from}, proofs.Counting.{among, hits}, proofs.Pending.{write_rows, writes_in}}
use Rattle.bank_laws.proofs.{Settling.{opens, step_stays, stays}, Ticks.last_tick-rises, Waiting.{read_rows, reads_in}, Walking.rows_after}
use Rattle.tick_laws.proofs.Tallies.{cuts_by, tally, tally_cuts}

hits-more : (p q : ℕ → Bool) (xs : List ℕ) → ((x : ℕ) → p x ≡ true → q x ≡ true) → hits p xs ≤ hits q xs
hits-more p q [] more = omega arith
hits-more p q (x ∷ xs) more = by (p x) (q x) (more x) (hits-more p q xs more)
  where
    by : (a b : Bool) → (a ≡ true → b ≡ true) → hits p xs ≤ hits q xs → cond a (suc (hits p xs)) (hits p xs) ≤ cond b (suc (hits q xs)) (hits q xs)
    by a b more h = grind arith

hits-new : (p q : ℕ → Bool) (xs : List ℕ) (c : ℕ) → ((x : ℕ) → p x ≡ true → q x ≡ true) → p c ≡ false → q c ≡ true → among xs c ≡ true → hits p xs + 1 ≤ hits q xs
hits-new p q [] c more old new there = absurd (cc)
hits-new p q (x ∷ xs) c more old new there = by (eqb x c) refl there (λ k. hits-new p q xs c more old new k)
  where
    rest : (a b : Bool) → (a ≡ true → b ≡ true) → hits p xs + 1 ≤ hits q xs → cond a (suc (hits p xs)) (hits p xs) + 1 ≤ cond b (suc (hits q xs)) (hits q xs)
    rest a b more h = grind arith

    own : (a b : Bool) → a ≡ false → b ≡ true → hits p xs ≤ hits q xs → cond a (suc (hits p xs)) (hits p xs) + 1 ≤ cond b (suc (hits q xs)) (hits q xs)
    own a b is js h = grind arith

    by : (b : Bool) → eqb x c ≡ b → (b || among xs c) ≡ true → (among xs c ≡ true → hits p xs + 1 ≤ hits q xs) → cond (p x) (suc (hits p xs)) (hits p xs) + 1 ≤ cond (q x) (suc (hits q xs)) (hits q xs)
    by true is there go = let same : x ≡ c = eqb-true x c is in own (p x) (q x) (ap p same ∙ old) (ap q same ∙ new) (hits-more p q xs more)
    by false is there go = rest (p x) (q x) (more x) (go there)

count-skip : {X : Type 0} (p : X → Bool) (x : X) (xs : List X) (k : ℕ) → p x ≡ false → count_by p xs ≡ k → count_by p (x ∷ xs) ≡ k
count-skip p x xs k no_hit is = count-cons p x xs ∙ subst (λ b. cond b 1 0 + count_by p xs ≡ k) (sym no_hit) (omega (arith, is))

pub among-later : {n m : ℕ} (rows : Happens n → List ℕ) (of : List (TimedEvent n m) → List ℕ) → ((x : TimedEvent n m) (xs : List (TimedEvent n m)) → of (x ∷ xs) ≡ rows x.happens ++ of xs) → (late xs : List (TimedEvent n m)) (c : ℕ)
    → among (of xs) c ≡ true → among (of (late ++ xs)) c ≡ true
among-later rows of unfolds [] xs c there = there
among-later rows of unfolds (y ∷ late) xs c there = subst (λ rs. among rs c ≡ true) (sym (unfolds y (late ++ xs))) (behind (rows y.happens) (of (late ++ xs)) (among-later rows of unfolds late xs c there))
  where
    behind : (rs more : List ℕ) → among more c ≡ true → among (rs ++ more) c ≡ true
    behind [] more h = h
    behind (r ∷ rs) more h = or_right (r == c) _ (behind rs more h)

module _ {n m : ℕ} (shape : BankShape) (pace : Pace) (e : ℕ) (all : List (TimedEvent n m)) where
  -- an event ends nothing that is counted, or sets the outcome of one of these rows
  abbrev pub Sets : (Happens n → ℕ) → List ℕ → (Outcome n → Bool) → TimedEvent n m → List (TimedEvent n m) → Type 0
  Sets by rows p y zs =
      (by y.happens ≡ 0) ⊎ ((by y.happens ≡ 1) × (c : ℕ) × (among rows c ≡ true) × (outcome_of shape zs c ≡ out.Unset) × (p (outcome_of shape (y ∷ zs) c) ≡ true))

  module _ (by : Happens n → ℕ) (rows : List ℕ) (p : Outcome n → Bool) (none : p out.Unset ≡ false) (zs : List (TimedEvent n m)) (u : ℕ) where
    set_from : (o : Outcome n) → p o ≡ true → o ≢ out.Unset
    set_from o is un = let k : p out.Unset ≡ true = subst (λ o. p o ≡ true) un is in absurd (cc)

    -- what events end is counted among rows with such outcomes
    tallied : ((late back : List (TimedEvent n m)) (y : TimedEvent n m) → all ≡ late ++ y ∷ (back ++ zs) → Lawful shape pace e (y ∷ back ++ zs) → y.tick ≤ u → Sets by rows p y (back ++ zs)) → 1 ≤ pace.read → 1 ≤ pace.iter
        → (late mid : List (TimedEvent n m)) → all ≡ late ++ (mid ++ zs) → Lawful shape pace e (mid ++ zs) → last_tick (mid ++ zs) ≤ u
        → tally by mid ≤ hits (λ row. p (outcome_of shape (mid ++ zs) row)) rows
    tallied each r i late [] same l le = omega arith
    tallied each r i late (y ∷ mid) same l le =
        let rises : last_tick (mid ++ zs) ≤ y.tick = last_tick-rises shape pace e (mid ++ zs) y r i l in
        over (tallied each r i (late ++ y ∷ []) mid (same ∙ sym (append_assoc late (y ∷ []) (mid ++ zs))) l.1 (omega (arith, rises, le))) (each late mid y same l le)
      where
        stay : (row : ℕ) → p (outcome_of shape (mid ++ zs) row) ≡ true → p (outcome_of shape (y ∷ mid ++ zs) row) ≡ true
        stay row is = ap p (step_stays shape pace e (mid ++ zs) y y.happens row l.1 (opens shape pace e (mid ++ zs) l.1) l.0 (set_from (outcome_of shape (mid ++ zs) row) is)) ∙ is

        over : tally by mid ≤ hits (λ row. p (outcome_of shape (mid ++ zs) row)) rows → Sets by rows p y (mid ++ zs) → by y.happens + tally by mid ≤ hits (λ row. p (outcome_of shape (y ∷ mid ++ zs) row)) rows
        over before (inl zero_of) =
            let more : hits (λ row. p (outcome_of shape (mid ++ zs) row)) rows ≤ hits (λ row. p (outcome_of shape (y ∷ mid ++ zs) row)) rows = hits-more _ _ rows stay in
            omega (arith, zero_of, more, before)
        over before (inr s) =
            let more : hits (λ row. p (outcome_of shape (mid ++ zs) row)) rows + 1 ≤ hits (λ row. p (outcome_of shape (y ∷ mid ++ zs) row)) rows =
            hits-new _ _ rows s.1 stay (ap p s.3 ∙ none) s.4 s.2 in
            omega (arith, s.0, more, before)

    pub tallied_all : ((late back : List (TimedEvent n m)) (y : TimedEvent n m) → all ≡ late ++ y ∷ (back ++ zs) → Lawful shape pace e (y ∷ back ++ zs) → y.tick ≤ u → Sets by rows p y (back ++ zs)) → 1 ≤ pace.read → 1 ≤ pace.iter
        → (late mid : List (TimedEvent n m)) → all ≡ late ++ (mid ++ zs) → Lawful shape pace e all → Lawful shape pace e (mid ++ zs) → last_tick (mid ++ zs) ≤ u
        → tally by mid ≤ hits (λ row. p (outcome_of shape all row)) rows
    tallied_all each r i late mid same whole l le =
        let some : tally by mid ≤ hits (λ row. p (outcome_of shape (mid ++ zs) row)) rows = tallied each r i late mid same l le in
        let more : hits (λ row. p (outcome_of shape (mid ++ zs) row)) rows ≤ hits (λ row. p (outcome_of shape all row)) rows =
        hits-more _ _ rows (λ row is.
        ap p (ap (λ (xs : List (TimedEvent n m)). outcome_of shape xs row) same
        ∙ stays shape pace e late (mid ++ zs) row (subst (λ (xs : List (TimedEvent n m)). Lawful shape pace e xs) same whole) (set_from (outcome_of shape (mid ++ zs) row) is)) ∙ is) in
        omega (arith, some, more)

module _ {n m : ℕ} (shape : BankShape) (all : List (TimedEvent n m)) where
  -- the rows with such outcomes, by the rows and by the events
  pub writes-counted : (p : Outcome n → Bool) → ((tick : ℕ) (o : Outcome n) → p (ended tick o) ≡ p o) → (xs : List (TimedEvent n m))
      → count_by (λ q. asks_write q.asks && p q.outcome) (rows_from shape all xs) ≡ hits (λ row. p (outcome_of shape all row)) (writes_in xs)
  writes-counted p same [] = refl
  writes-counted p same (x ∷ xs) = by x.happens x.cancels (writes-counted p same xs)
    where
      one : (a b : Bool) (c d : ℕ) → a ≡ b → c ≡ d → cond a 1 0 + c ≡ cond b (suc d) d
      one a b c d is k = grind arith

      by : (h : Happens n) (cancels : Bool) → count_by (λ q. asks_write q.asks && p q.outcome) (rows_from shape all xs) ≡ hits (λ row. p (outcome_of shape all row)) (writes_in xs)
          → count_by (λ q. asks_write q.asks && p q.outcome) (row_with shape all h x.tick cancels ++ rows_from shape all xs) ≡ hits (λ row. p (outcome_of shape all row)) (write_rows h ++ writes_in xs)
      by (Core (Write row line bytes given answer)) cancels ih = count-cons _ (record { tick = x.tick; asks = Writes line bytes given; outcome = ended x.tick (outcome_of shape all row) }) (rows_from shape all xs) ∙ one (p (ended x.tick (outcome_of shape all row))) _ _ _ (same x.tick (outcome_of shape all row)) ih
      by (Core (Read row line answer)) cancels ih = count-skip _ (record { tick = x.tick; asks = Reads line; outcome = outcome_of shape all row }) (rows_from shape all xs) _ refl ih
      by (Core (Cut tearing)) false ih = count-skip _ (record { tick = x.tick; asks = Cuts; outcome = out.Cut x.tick }) (rows_from shape all xs) _ refl ih
      by _ _ ih = ih

  pub reads-counted : (p : Outcome n → Bool) → (xs : List (TimedEvent n m))
      → count_by (λ q. asks_read q.asks && p q.outcome) (rows_from shape all xs) ≡ hits (λ row. p (outcome_of shape all row)) (reads_in xs)
  reads-counted p [] = refl
  reads-counted p (x ∷ xs) = by x.happens x.cancels (reads-counted p xs)
    where
      one : (a : Bool) (c d : ℕ) → c ≡ d → cond a 1 0 + c ≡ cond a (suc d) d
      one a c d k = grind arith

      by : (h : Happens n) (cancels : Bool) → count_by (λ q. asks_read q.asks && p q.outcome) (rows_from shape all xs) ≡ hits (λ row. p (outcome_of shape all row)) (reads_in xs)
          → count_by (λ q. asks_read q.asks && p q.outcome) (row_with shape all h x.tick cancels ++ rows_from shape all xs) ≡ hits (λ row. p (outcome_of shape all row)) (read_rows h ++ reads_in xs)
      by (Core (Write row line bytes given answer)) cancels ih = count-skip _ (record { tick = x.tick; asks = Writes line bytes given; outcome = ended x.tick (outcome_of shape all row) }) (rows_from shape all xs) _ refl ih
      by (Core (Read row line answer)) cancels ih = count-cons _ (record { tick = x.tick; asks = Reads line; outcome = outcome_of shape all row }) (rows_from shape all xs) ∙ one (p (outcome_of shape all row)) _ _ ih
      by (Core (Cut tearing)) false ih = count-skip _ (record { tick = x.tick; asks = Cuts; outcome = out.Cut x.tick }) (rows_from shape all xs) _ refl ih
      by _ _ ih = ih

  -- the rows of a table are those behind an event and those before it
  pub rows-counted : (t : Row n → Bool) (later zs : List (TimedEvent n m)) → count_by t (rows_from shape all (later ++ zs)) ≡ count_by t (rows_after shape all later) + count_by t (rows_from shape all zs)
  rows-counted t [] zs = omega arith
  rows-counted t (y ∷ later) zs =
      let before : count_by t (rows_from shape all (later ++ zs)) ≡ count_by t (rows_after shape all later) + count_by t (rows_from shape all zs) = rows-counted t later zs in
      let front : count_by t (row_with shape all y.happens y.tick y.cancels ++ rows_from shape all (later ++ zs)) ≡ count_by t (row_with shape all y.happens y.tick y.cancels) + count_by t (rows_from shape all (later ++ zs)) =
      count-append t (row_with shape all y.happens y.tick y.cancels) (rows_from shape all (later ++ zs)) in
      let back : count_by t (rows_after shape all later ++ row_with shape all y.happens y.tick y.cancels) ≡ count_by t (rows_after shape all later) + count_by t (row_with shape all y.happens y.tick y.cancels) =
      count-append t (rows_after shape all later) (row_with shape all y.happens y.tick y.cancels) in
      omega (arith, before, front, back)

  -- the cuts among some events
  pub cuts-counted : (pace : Pace) (e u : ℕ) (mid zs : List (TimedEvent n m)) → 1 ≤ pace.read → 1 ≤ pace.iter → Lawful shape pace e (mid ++ zs) → last_tick (mid ++ zs) ≤ u
      → tally_cuts cuts_by mid ≤ cuts_to u (rows_after shape all mid)
  cuts-counted pace e u [] zs r i l le = omega arith
  cuts-counted pace e u (y ∷ mid) zs r i l le =
      let rises : last_tick (mid ++ zs) ≤ y.tick = last_tick-rises shape pace e (mid ++ zs) y r i l in
      let before : tally_cuts cuts_by mid ≤ cuts_to u (rows_after shape all mid) = cuts-counted pace e u mid zs r i l.1 (omega (arith, rises, le)) in
      let back : cuts_to u (rows_after shape all mid ++ row_with shape all y.happens y.tick y.cancels) ≡ cuts_to u (rows_after shape all mid) + cuts_to u (row_with shape all y.happens y.tick y.cancels) =
      count-append _ (rows_after shape all mid) (row_with shape all y.happens y.tick y.cancels) in
      let own : cuts_by y.happens y.cancels ≤ cuts_to u (row_with shape all y.happens y.tick y.cancels) = by y.happens y.cancels in
      omega (arith, before, back, own)
    where
      one : (b : Bool) → b ≡ true → 1 ≤ 0 + cond b 1 0
      one b is = grind arith

      by : (h : Happens n) (cancels : Bool) → cuts_by h cancels ≤ cuts_to u (row_with shape all h y.tick cancels)
      by (Core (Cut tearing)) false = one (nat_le y.tick u) (le-leb y.tick u le)
      by _ _ = omega arith
