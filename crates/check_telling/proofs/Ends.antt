-- Ticks at which rows are stored or read, the oldest row first.
use Rattle.std.proofs.Common.{◌≡◌, ℕ, Bool, true, false, List, [], ◌∷◌, ◌++◌, refl, cond}
use Rattle.std.{specs.Prelude.{nat_lt, reverse}, proofs.lemmas.List.reverse-append}
use Rattle.result_rows.specs.declared.Outcome.{Outcome}
use Rattle.result_rows.specs.declared.Outcome.TheVariants as out
use Rattle.row_rules.specs.declared.Row.{Row}
use Rattle.check_judging.specs.Distances.{end_above, ends_above, wait_above, waits_above}
use Rattle.check_telling.specs.Steps.{with_read_at, with_store}

module _ {n : ℕ} (tick : ℕ) where
  one_more : (o : Outcome n) (ends : List ℕ) → reverse (end_above tick o ends) ≡ with_store tick o (reverse ends)
  one_more (out.Stored u place) ends = by (nat_lt tick u)
    where
      by : (b : Bool) → reverse (cond b (u ∷ ends) ends) ≡ cond b (reverse ends ++ u ∷ []) (reverse ends)
      by true = reverse-append (u ∷ []) ends
      by false = refl
  one_more out.Unset ends = refl
  one_more (out.Merged u) ends = refl
  one_more (out.Queued u) ends = refl
  one_more (out.Full u) ends = refl
  one_more (out.Worn u) ends = refl
  one_more (out.Read u place bytes) ends = refl
  one_more (out.Forwarded u bytes) ends = refl
  one_more (out.Busy u) ends = refl
  one_more (out.Lost u) ends = refl
  one_more (out.Cut u) ends = refl

  pub stores_more : (q : Row n) (rows : List (Row n)) → reverse (ends_above tick (q ∷ rows)) ≡ with_store tick q.outcome (reverse (ends_above tick rows))
  stores_more q rows = one_more q.outcome (ends_above tick rows)

  one_read : (o : Outcome n) (ends : List ℕ) → reverse (wait_above tick o ends) ≡ with_read_at tick o (reverse ends)
  one_read (out.Read u place bytes) ends = by (nat_lt tick u)
    where
      by : (b : Bool) → reverse (cond b (u ∷ ends) ends) ≡ cond b (reverse ends ++ u ∷ []) (reverse ends)
      by true = reverse-append (u ∷ []) ends
      by false = refl
  one_read out.Unset ends = refl
  one_read (out.Stored u place) ends = refl
  one_read (out.Merged u) ends = refl
  one_read (out.Queued u) ends = refl
  one_read (out.Full u) ends = refl
  one_read (out.Worn u) ends = refl
  one_read (out.Forwarded u bytes) ends = refl
  one_read (out.Busy u) ends = refl
  one_read (out.Lost u) ends = refl
  one_read (out.Cut u) ends = refl

  pub reads_more : (q : Row n) (rows : List (Row n)) → reverse (waits_above tick (q ∷ rows)) ≡ with_read_at tick q.outcome (reverse (waits_above tick rows))
  reads_more q rows = one_read q.outcome (waits_above tick rows)
