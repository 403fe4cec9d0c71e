-- The rows of a table count the writes of its events.
use Rattle.std.proofs.Common.{◌≡◌, ℕ, ◌+◌, ◌/◌, ◌==◌, ◌&&◌, Bool, true, false, List, [], ◌∷◌, ◌++◌, refl, sym, ap, ◌∙◌, arith, append_assoc, sum_by}
use Rattle.std.proofs.lemmas.List.Sums.{sum_by-cons, sum_by-append}
use Rattle.result_rows.specs.declared.Outcome.{Outcome}
use Rattle.result_rows.specs.declared.Outcome.TheVariants as out
use Rattle.row_rules.specs.{Answers.{is_stored, stored_before}, Rows.{asks_write, line_of}, declared.Asks.TheVariants.{Reads, Writes, Cuts}, declared.Row.Row}
use Rattle.bank_shape.specs.declared.BankShape.{BankShape}
use Rattle.bank_model.specs.{Events.{Write, Read, Cut}, Timing.{Happens, Core, TimedEvent, core, core_of}}
use Rattle.bank_laws.{specs.Outcomes.{outcome_of, ended, row_with, rows_from, table_of}, proofs.Walking.{rows_after, rows_after-more}}
use Rattle.place_laws.proofs.Counts.{writes_with}
use Rattle.masked_bytes.proofs.Counting.{one_if}

ended-stored : {n : ℕ} (tick : ℕ) (o : Outcome n) → is_stored (ended tick o) ≡ is_stored o
ended-stored tick o = grind arith

ended-before : {n : ℕ} (t tick : ℕ) (o : Outcome n) → stored_before t (ended tick o) ≡ stored_before t o
ended-before t tick o = grind arith

module _ {n m : ℕ} (shape : BankShape) (all : List (TimedEvent n m)) where
  -- a test of the writes of some lines by their outcomes
  pub record IsOfWrites (test : Row n → Bool) (keep : ℕ → Bool) (counts : Outcome n → Bool) : Type 0 where
    pub writes : (tick line : ℕ) (bytes : List ℕ) (given : List Bool) (o : Outcome n) → test (record { tick = tick; asks = Writes line bytes given; outcome = ended tick o }) ≡ (keep line && counts o)
    pub reads : (tick line : ℕ) (o : Outcome n) → test (record { tick = tick; asks = Reads line; outcome = o }) ≡ false
    pub cuts : (tick : ℕ) (o : Outcome n) → test (record { tick = tick; asks = Cuts; outcome = o }) ≡ false

  pub rows-counted : (test : Row n → Bool) (keep : ℕ → Bool) (counts : Outcome n → Bool) → IsOfWrites test keep counts → (ys : List (TimedEvent n m))
      → sum_by (λ r. one_if (test r)) (rows_from shape all ys) ≡ writes_with keep (λ row. counts (outcome_of shape all row)) (core ys)
  rows-counted test keep counts is [] = refl
  rows-counted test keep counts is (x ∷ ys) = by x.happens x.cancels (rows-counted test keep counts is ys)
    where
      first : (r : Row n) (b : Bool) (k : ℕ) → test r ≡ b → sum_by (λ r. one_if (test r)) (rows_from shape all ys) ≡ k → sum_by (λ r. one_if (test r)) (r ∷ rows_from shape all ys) ≡ one_if b + k
      first r b k same ih = sum_by-cons (λ r. one_if (test r)) r (rows_from shape all ys) ∙ ap (λ b. one_if b + sum_by (λ r. one_if (test r)) (rows_from shape all ys)) same ∙ ap (λ k. one_if b + k) ih

      none : (r : Row n) (k : ℕ) → test r ≡ false → sum_by (λ r. one_if (test r)) (rows_from shape all ys) ≡ k → sum_by (λ r. one_if (test r)) (r ∷ rows_from shape all ys) ≡ k
      none r k same ih = omega (arith, first r false k same ih)

      by : (h : Happens n) (cancels : Bool) → sum_by (λ r. one_if (test r)) (rows_from shape all ys) ≡ writes_with keep (λ row. counts (outcome_of shape all row)) (core ys)
          → sum_by (λ r. one_if (test r)) (row_with shape all h x.tick cancels ++ rows_from shape all ys) ≡ writes_with keep (λ row. counts (outcome_of shape all row)) (core_of h (core ys))
      by (Core (Write row line bytes given answer)) cancels ih = first _ _ _ (is.writes x.tick line bytes given (outcome_of shape all row)) ih
      by (Core (Read row line answer)) cancels ih = none _ _ (is.reads x.tick line (outcome_of shape all row)) ih
      by (Core (Cut tearing)) false ih = none _ _ (is.cuts x.tick (out.Cut x.tick)) ih
      by _ _ ih = ih

  -- the stores of a region below a tick
  pub region-counted : (t region : ℕ) → sum_by (λ (q : Row n). one_if (asks_write q.asks && (line_of q.asks / shape.lines == region && stored_before t q.outcome))) (table_of shape all)
      ≡ writes_with (λ line. line / shape.lines == region) (λ row. stored_before t (outcome_of shape all row)) (core all)
  region-counted t region =
      rows-counted (λ q. asks_write q.asks && (line_of q.asks / shape.lines == region && stored_before t q.outcome)) (λ line. line / shape.lines == region) (stored_before t) (record {
        writes = λ tick line bytes given o. ap (λ b. line / shape.lines == region && b) (ended-before t tick o);
        reads = λ tick line o. refl;
        cuts = λ tick o. refl;
      }) all

  -- those of a region in the end
  pub region-all : (region : ℕ) → sum_by (λ (q : Row n). one_if (asks_write q.asks && (line_of q.asks / shape.lines == region && is_stored q.outcome))) (table_of shape all)
      ≡ writes_with (λ line. line / shape.lines == region) (λ row. is_stored (outcome_of shape all row)) (core all)
  region-all region =
      rows-counted (λ q. asks_write q.asks && (line_of q.asks / shape.lines == region && is_stored q.outcome)) (λ line. line / shape.lines == region) is_stored (record {
        writes = λ tick line bytes given o. ap (λ b. line / shape.lines == region && b) (ended-stored tick o);
        reads = λ tick line o. refl;
        cuts = λ tick o. refl;
      }) all

  -- all stores
  pub all-counted : sum_by (λ (q : Row n). one_if (asks_write q.asks && is_stored q.outcome)) (table_of shape all) ≡ writes_with (λ line. true) (λ row. is_stored (outcome_of shape all row)) (core all)
  all-counted =
      rows-counted (λ q. asks_write q.asks && is_stored q.outcome) (λ line. true) is_stored (record {
        writes = λ tick line bytes given o. ended-stored tick o;
        reads = λ tick line o. refl;
        cuts = λ tick o. refl;
      }) all

  in_order : (f : Row n → ℕ) (later ys : List (TimedEvent n m)) → sum_by f (rows_from shape all ys ++ rows_after shape all later) ≡ sum_by f (rows_from shape all (later ++ ys))
  in_order f [] ys = omega (arith, sum_by-append f (rows_from shape all ys) [])
  in_order f (x ∷ later) ys =
      omega (
        arith,
        sum_by-append f (rows_from shape all ys) (rows_after shape all later ++ row_with shape all x.happens x.tick x.cancels),
        sum_by-append f (rows_after shape all later) (row_with shape all x.happens x.tick x.cancels),
        sum_by-append f (rows_from shape all ys) (rows_after shape all later),
        sum_by-append f (row_with shape all x.happens x.tick x.cancels) (rows_from shape all (later ++ ys)),
        in_order f later ys,
      )

  -- the rows before a row, it and those after it sum up to the table's
  pub between : (f : Row n → ℕ) (later : List (TimedEvent n m)) (x : TimedEvent n m) (ys : List (TimedEvent n m)) → all ≡ later ++ x ∷ ys
      → sum_by f (rows_from shape all ys ++ (row_with shape all x.happens x.tick x.cancels ++ rows_after shape all later)) ≡ sum_by f (table_of shape all)
  between f later x ys same =
      ap (λ rows. sum_by f (rows_from shape all ys ++ rows)) (sym (rows_after-more shape all later x))
      ∙ in_order f (later ++ x ∷ []) ys ∙ ap (λ xs. sum_by f (rows_from shape all xs)) (append_assoc later (x ∷ []) ys ∙ sym same)
