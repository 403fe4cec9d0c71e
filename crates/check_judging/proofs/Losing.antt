-- How many reads wait.
use Rattle.std.proofs.Common.{◌≡◌, ℕ, ◌+◌, ◌&&◌, ◌||◌, Bool, true, false, List, [], ◌∷◌, length, refl, cond, arith}
use Rattle.std.specs.{List.{list_all, list_any}, Prelude.{nat_lt, not}}
use Rattle.masked_bytes.proofs.Truth.{and_first, and_second}
use Rattle.result_rows.specs.declared.Outcome.{Outcome}
use Rattle.result_rows.specs.declared.Outcome.TheVariants as out
use Rattle.row_rules.specs.{Answers.{is_stored, is_answered, read_after, is_lost}, Queueing.waiting, Rows.{asks_read, asks_write, is_cut}, declared.Row.Row}
use Rattle.check_judging.specs.{Distances.{wait_above, waits_above}, Lost.{lost_since, WaitingLaw}, Standing.is_own}

module _ {n : ℕ} (t : ℕ) where
  -- no read that waits, and none that is lost
  none : (w : Bool) (q : Row n) (waits : List ℕ) (ps : List (Row n)) (k : ℕ) → length ps ≡ length waits + k
      → length (cond (w && false) (q ∷ ps) ps) ≡ length waits + (cond (w && false) 1 0 + k)
  none true q waits ps k is = omega (arith, is)
  none false q waits ps k is = omega (arith, is)

  one : (w m : Bool) (q : Row n) (o : Outcome n) (waits : List ℕ) (ps : List (Row n)) (k : ℕ) → (not (is_answered o) || w) ≡ true
      → length ps ≡ length waits + k
      → length (cond (w && (read_after t o || (is_lost o && m))) (q ∷ ps) ps) ≡ length (wait_above t o waits) + (cond (w && (is_lost o && m)) 1 0 + k)
  one true m q (out.Read u place bytes) waits ps k own is = by (nat_lt t u)
    where
      by : (b : Bool) → length (cond (b || false) (q ∷ ps) ps) ≡ length (cond b (u ∷ waits) waits) + (0 + k)
      by true = omega (arith, is)
      by false = omega (arith, is)
  one false m q (out.Read u place bytes) waits ps k own is = absurd (cc)
  one true true q (out.Lost u) waits ps k own is = omega (arith, is)
  one true false q (out.Lost u) waits ps k own is = omega (arith, is)
  one false m q (out.Lost u) waits ps k own is = omega (arith, is)
  one w m q out.Unset waits ps k own is = none w q waits ps k is
  one w m q (out.Stored u place) waits ps k own is = none w q waits ps k is
  one w m q (out.Merged u) waits ps k own is = none w q waits ps k is
  one w m q (out.Queued u) waits ps k own is = none w q waits ps k is
  one w m q (out.Full u) waits ps k own is = none w q waits ps k is
  one w m q (out.Worn u) waits ps k own is = none w q waits ps k is
  one w m q (out.Forwarded u bytes) waits ps k own is = none w q waits ps k is
  one w m q (out.Busy u) waits ps k own is = none w q waits ps k is
  one w m q (out.Cut u) waits ps k own is = none w q waits ps k is

  number : (between rows : List (Row n)) → list_all is_own rows ≡ true → length (waiting t between rows) ≡ length (waits_above t rows) + lost_since between rows
  number between [] own = refl
  number between (q ∷ rows) own =
      one (asks_read q.asks) (not (list_any is_cut between)) q q.outcome (waits_above t rows) (waiting t (q ∷ between) rows) (lost_since (q ∷ between) rows)
      (and_second (not (is_stored q.outcome) || asks_write q.asks) _ (and_first (is_own q) _ own)) (number (q ∷ between) rows (and_second (is_own q) _ own))

pub waiting_law : WaitingLaw
waiting_law n t rows own = number t [] rows own
