-- The writes that stand in the queue of a settled bank are queued, with the ticks of their arrival.
use Rattle.std.proofs.Common.{◌≡◌, ℕ, suc, zero, ◌+◌, ◌<◌, ◌≤◌, ◌==◌, ◌||◌, if◌then◌else◌, Bool, true, false, List, [], ◌∷◌, length, drop, map, Option, Some, None, slice_get, refl, sym, ap, subst, ◌∙◌, arith, eqb-true}
use Rattle.std.{specs.Prelude.{unwrap_or, IsSomeAnd}, proofs.Math.ListN.drop_of_length-le, proofs.lemmas.Bool.or_right, proofs.lemmas.List.{drop-drop, length-drop}}
use Rattle.result_rows.specs.{Table.{HasRow, with_outcome}, declared.Outcome.Outcome, declared.Outcome.TheVariants.Queued}
use Rattle.masked_bytes.specs.{Entries.has_row, declared.entry.Entry.Entry}
use Rattle.bank_timing.{specs.Draining.{AreQueueable, AreQueued, queued_outcome}, specs.Extending.{outcome_in, IsOpen}, proofs.Rows.{rows-set, in-set, open-set}}
use Rattle.bank_timing.proofs.Standing.{has-head, apart-by}

pub below-of : (i end len : ℕ) → i < end → end ≡ len → i < len
below-of i end len h is = omega (arith, h, is)

pub past-of : (i end len : ℕ) → end ≤ i → end ≡ len → len ≤ i
past-of i end len h is = omega (arith, h, is)

-- what is there is got
pub opened : {A : Type 0} (P : A → Type 0) (x : Option A) (a : A) → Some a ≡ x → IsSomeAnd x P → P a
opened P x a is has = subst (λ (x : Option _). IsSomeAnd x P) (sym is) has

pub not-past : {A : Type 0} (xs : List A) (i : ℕ) → i < length xs → None ≡ slice_get xs i → ⊥
not-past [] i below none = omega arith
not-past (x ∷ xs) zero below none = cc
not-past (x ∷ xs) (suc i) below none = not-past xs i (omega arith) none

module _ {n : ℕ} where
  none-queued : (es : List (Entry n)) (ticks : List ℕ) (row : ℕ) → has_row es row ≡ false → queued_outcome es ticks row ≡ None
  none-queued [] ticks row none = refl
  none-queued (e ∷ es) [] row none = refl
  none-queued (e ∷ es) (tick ∷ ticks) row none = by (e.row == row) (λ rest. none-queued es ticks row rest) none
    where
      by : (b : Bool) → (has_row es row ≡ false → queued_outcome es ticks row ≡ None) → (b || has_row es row) ≡ false → (if b then Some (Queued tick) else queued_outcome es ticks row) ≡ None
      by true rest none = absurd (cc)
      by false rest none = rest none

  pub none-left : (es : List (Entry n)) (ticks : List ℕ) (results recorded : List (Outcome n)) (row : ℕ) → HasRow results row → has_row es row ≡ false
      → AreQueued es ticks results recorded → outcome_in recorded row ≡ outcome_in results row
  none-left es ticks results recorded row there none queued =
      queued.outcomes row there ∙ ap (λ (o : Option (Outcome n)). unwrap_or o (outcome_in results row)) (none-queued es ticks row none)

  -- with the ticks of the rows
  pub queued-told : (tick_of : ℕ → ℕ) (es : List (Entry n)) (row : ℕ) (other : Outcome n)
      → unwrap_or (queued_outcome es (map (λ (entry : Entry n). tick_of entry.row) es) row) other ≡ (if has_row es row then Queued (tick_of row) else other)
  queued-told tick_of [] row other = refl
  queued-told tick_of (e ∷ es) row other = by (e.row == row) (queued-told tick_of es row other) (eqb-true e.row row)
    where
      by : (b : Bool)
          → unwrap_or (queued_outcome es (map (λ (entry : Entry n). tick_of entry.row) es) row) other ≡ (if has_row es row then Queued (tick_of row) else other)
          → (b ≡ true → e.row ≡ row)
          → unwrap_or (if b then Some (Queued (tick_of e.row)) else queued_outcome es (map (λ (entry : Entry n). tick_of entry.row) es) row) other
          ≡ (if b || has_row es row then Queued (tick_of row) else other)
      by true rest same = ap (λ r. Queued (tick_of r)) (same refl)
      by false rest same = rest

  -- The loop

  -- so many entries are queued, and the rest may be
  pub record QueuedSoFar (es : List (Entry n)) (ticks : List ℕ) (results : List (Outcome n)) (index : ℕ) (now : List (Outcome n)) : Type 0 where
    pub rest : AreQueueable (drop index es) (drop index ticks) now
    pub rows : length now ≡ length results
    pub outcomes : (row : ℕ) → HasRow results row
        → unwrap_or (queued_outcome (drop index es) (drop index ticks) row) (outcome_in now row) ≡ unwrap_or (queued_outcome es ticks row) (outcome_in results row)

  pub none-yet : (es : List (Entry n)) (ticks : List ℕ) (results : List (Outcome n)) → AreQueueable es ticks results → QueuedSoFar es ticks results 0 results
  none-yet es ticks results ready = record { rest = ready; rows = refl; outcomes = λ row there. refl }

  -- the first of some entries is queued
  record HeadQueued (es : List (Entry n)) (ticks : List ℕ) (results recorded : List (Outcome n)) : Type 0 where
    rest : AreQueueable (drop 1 es) (drop 1 ticks) recorded
    rows : length recorded ≡ length results
    outcomes : (row : ℕ) → HasRow results row
        → unwrap_or (queued_outcome (drop 1 es) (drop 1 ticks) row) (outcome_in recorded row) ≡ unwrap_or (queued_outcome es ticks row) (outcome_in results row)

  head-queued : (es : List (Entry n)) (ticks : List ℕ) (results recorded : List (Outcome n)) → AreQueueable es ticks results
      → IsSomeAnd (slice_get es 0) (λ entry. IsSomeAnd (slice_get ticks 0) (λ tick. recorded ≡ with_outcome results entry.row (Queued tick)))
      → HeadQueued es ticks results recorded
  head-queued [] ticks results recorded ready is = absurd is
  head-queued (e ∷ es) [] results recorded ready is = absurd is
  head-queued (e ∷ es) (tick ∷ ticks) results recorded ready is = rw is (record {
    rest = record {
      told = (let told = ready.told in omega (arith, told));
      apart = ready.apart.1;
      unset = λ row there. open-set results e.row (Queued tick) row here.exists (apart-by (has_row es) row e.row there ready.apart.0) (ready.unset row (or_right (e.row == row) (has_row es row) there));
    };
    rows = rows-set results e.row (Queued tick);
    outcomes = λ row there.
        ap (λ (o : Outcome n). unwrap_or (queued_outcome es ticks row) o) (in-set results e.row (Queued tick) row here.exists there)
        ∙ by row (e.row == row) (eqb-true e.row row);
  })
    where
      here : IsOpen results e.row
      here = ready.unset e.row (has-head e es)

      by : (row : ℕ) (b : Bool) → (b ≡ true → e.row ≡ row)
          → unwrap_or (queued_outcome es ticks row) (unwrap_or (if b then Some (Queued tick) else None) (outcome_in results row))
          ≡ unwrap_or (if b then Some (Queued tick) else queued_outcome es ticks row) (outcome_in results row)
      by row true same = ap (λ (o : Option (Outcome n)). unwrap_or o (Queued tick)) (none-queued es ticks row (ap (λ r. has_row es r) (sym (same refl)) ∙ ready.apart.0))
      by row false same = refl

drop-further : {A : Type 0} (xs : List A) (index : ℕ) → drop 1 (drop index xs) ≡ drop (index + 1) xs
drop-further xs index = drop-drop 1 index xs

get-drop : {A : Type 0} (xs : List A) (index : ℕ) → slice_get (drop index xs) 0 ≡ slice_get xs index
get-drop [] zero = refl
get-drop [] (suc index) = refl
get-drop (x ∷ xs) zero = refl
get-drop (x ∷ xs) (suc index) = get-drop xs index

module _ {n : ℕ} where
  pub one-queued : (es : List (Entry n)) (ticks : List ℕ) (results : List (Outcome n)) (index : ℕ) (now new : List (Outcome n)) → QueuedSoFar es ticks results index now
      → IsSomeAnd (slice_get es index) (λ entry. IsSomeAnd (slice_get ticks index) (λ tick. new ≡ with_outcome now entry.row (Queued tick)))
      → QueuedSoFar es ticks results (index + 1) new
  one-queued es ticks results index now new so is =
      let head : HeadQueued (drop index es) (drop index ticks) now new =
      head-queued (drop index es) (drop index ticks) now new so.rest (rw (get-drop es index, get-drop ticks index) is) in
      record {
        rest = rw (← drop-further es index, ← drop-further ticks index) head.rest;
        rows = head.rows ∙ so.rows;
        outcomes = λ row there.
            rw (← drop-further es index, ← drop-further ticks index)
            (head.outcomes row (let same = so.rows in record { above = there.above; within = omega (arith, same, there.within) }) ∙ so.outcomes row there);
      }

  -- the entry at an index may be queued
  pub at-open : (es : List (Entry n)) (ticks : List ℕ) (results : List (Outcome n)) (index : ℕ) (now : List (Outcome n)) → index < length es → QueuedSoFar es ticks results index now
      → IsSomeAnd (slice_get es index) (λ entry. IsOpen now entry.row)
  at-open es ticks results index now below so = rw (← get-drop es index) (head (drop index es) (some es index below) so.rest.unset)
    where
      some : (es : List (Entry n)) (index : ℕ) → index < length es → 0 < length (drop index es)
      some es index below = omega (arith, length-drop index es)

      head : (es : List (Entry n)) → 0 < length es → ((row : ℕ) → has_row es row ≡ true → IsOpen now row) → IsSomeAnd (slice_get es 0) (λ entry. IsOpen now entry.row)
      head [] some unset = absurd (omega arith)
      head (e ∷ es) some unset = unset e.row (has-head e es)

  pub all-queued : (es : List (Entry n)) (ticks : List ℕ) (results : List (Outcome n)) (index : ℕ) (now : List (Outcome n)) → length es ≤ index → QueuedSoFar es ticks results index now
      → AreQueued es ticks results now
  all-queued es ticks results index now past so = record {
    rows = so.rows;
    outcomes = λ row there.
        ap (λ (es : List (Entry n)). unwrap_or (queued_outcome es (drop index ticks) row) (outcome_in now row)) (sym (none es index past)) ∙ so.outcomes row there;
  }
    where
      none : (es : List (Entry n)) (index : ℕ) → length es ≤ index → drop index es ≡ []
      none es index past = drop_of_length-le es past
