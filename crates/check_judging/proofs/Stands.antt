-- Ticks still to come are those of the writes that stand and of the reads that wait.
use Rattle.std.proofs.Common.{◌≡◌, ℕ, ◌&&◌, ◌||◌, Bool, true, false, List, [], ◌∷◌, refl, sym, ap, ◌∙◌, cond}
use Rattle.std.specs.{List.{list_all, list_any}, Prelude.{nat_lt, not}}
use Rattle.masked_bytes.proofs.Truth.{and_first, and_second}
use Rattle.result_rows.specs.declared.Outcome.{Outcome}
use Rattle.result_rows.specs.declared.Outcome.TheVariants as out
use Rattle.row_rules.specs.{Answers.{accepts, is_stored, is_answered, stored_after, read_after, is_queued, is_merged, is_lost}, Queueing.{pending, waiting}}
use Rattle.row_rules.specs.{Rows.{asks_write, asks_read, accepted_of, is_cut, line_of}, declared.Row.Row}
use Rattle.check_judging.specs.{Distances.{end_above, ends_above, wait_above, waits_above}, Standing.{is_own, at_end, at_read, StandLaw}}

module _ {n : ℕ} (t : ℕ) (test : ℕ → Bool) where
  -- what passes anyway adds nothing
  skip : (s : Bool) (q : Row n) (f : Row n → Bool) (ps : List (Row n)) (k : Bool) → f q ≡ true → k ≡ list_all f ps → k ≡ list_all f (cond s (q ∷ ps) ps)
  skip true q f ps k passes is = is ∙ sym (ap (λ b. b && list_all f ps) passes)
  skip false q f ps k passes is = is

  one : (w m : Bool) (q : Row n) (o : Outcome n) (ends : List ℕ) (ps : List (Row n)) → q.outcome ≡ o → (not (is_stored o) || w) ≡ true
      → list_all test ends ≡ list_all (λ r. at_end test r.outcome) ps
      → list_all test (end_above t o ends)
      ≡ list_all (λ r. at_end test r.outcome) (cond ((w && accepts o) && (stored_after t o || (is_queued o || (is_merged o && m)))) (q ∷ ps) ps)
  one true m q (out.Stored u place) ends ps eq own is = by (nat_lt t u)
    where
      by : (b : Bool) → list_all test (cond b (u ∷ ends) ends) ≡ list_all (λ r. at_end test r.outcome) (cond (b || false) (q ∷ ps) ps)
      by true = ap (λ b. test u && b) is ∙ ap (λ o. at_end test o && list_all (λ r. at_end test r.outcome) ps) (sym eq)
      by false = is
  one false m q (out.Stored u place) ends ps eq own is = absurd (cc)
  one w m q out.Unset ends ps eq own is = skip _ q (λ r. at_end test r.outcome) ps _ (ap (at_end test) eq) is
  one w m q (out.Merged u) ends ps eq own is = skip _ q (λ r. at_end test r.outcome) ps _ (ap (at_end test) eq) is
  one w m q (out.Queued u) ends ps eq own is = skip _ q (λ r. at_end test r.outcome) ps _ (ap (at_end test) eq) is
  one w m q (out.Full u) ends ps eq own is = skip _ q (λ r. at_end test r.outcome) ps _ (ap (at_end test) eq) is
  one w m q (out.Worn u) ends ps eq own is = skip _ q (λ r. at_end test r.outcome) ps _ (ap (at_end test) eq) is
  one w m q (out.Read u place bytes) ends ps eq own is = skip _ q (λ r. at_end test r.outcome) ps _ (ap (at_end test) eq) is
  one w m q (out.Forwarded u bytes) ends ps eq own is = skip _ q (λ r. at_end test r.outcome) ps _ (ap (at_end test) eq) is
  one w m q (out.Busy u) ends ps eq own is = skip _ q (λ r. at_end test r.outcome) ps _ (ap (at_end test) eq) is
  one w m q (out.Lost u) ends ps eq own is = skip _ q (λ r. at_end test r.outcome) ps _ (ap (at_end test) eq) is
  one w m q (out.Cut u) ends ps eq own is = skip _ q (λ r. at_end test r.outcome) ps _ (ap (at_end test) eq) is

  two : (w m : Bool) (q : Row n) (o : Outcome n) (waits : List ℕ) (ps : List (Row n)) → q.outcome ≡ o → (not (is_answered o) || w) ≡ true
      → list_all test waits ≡ list_all (λ r. at_read test r.outcome) ps
      → list_all test (wait_above t o waits)
      ≡ list_all (λ r. at_read test r.outcome) (cond (w && (read_after t o || (is_lost o && m))) (q ∷ ps) ps)
  two true m q (out.Read u place bytes) waits ps eq own is = by (nat_lt t u)
    where
      by : (b : Bool) → list_all test (cond b (u ∷ waits) waits) ≡ list_all (λ r. at_read test r.outcome) (cond (b || false) (q ∷ ps) ps)
      by true = ap (λ b. test u && b) is ∙ ap (λ o. at_read test o && list_all (λ r. at_read test r.outcome) ps) (sym eq)
      by false = is
  two false m q (out.Read u place bytes) waits ps eq own is = absurd (cc)
  two w m q out.Unset waits ps eq own is = skip _ q (λ r. at_read test r.outcome) ps _ (ap (at_read test) eq) is
  two w m q (out.Stored u place) waits ps eq own is = skip _ q (λ r. at_read test r.outcome) ps _ (ap (at_read test) eq) is
  two w m q (out.Merged u) waits ps eq own is = skip _ q (λ r. at_read test r.outcome) ps _ (ap (at_read test) eq) is
  two w m q (out.Queued u) waits ps eq own is = skip _ q (λ r. at_read test r.outcome) ps _ (ap (at_read test) eq) is
  two w m q (out.Full u) waits ps eq own is = skip _ q (λ r. at_read test r.outcome) ps _ (ap (at_read test) eq) is
  two w m q (out.Worn u) waits ps eq own is = skip _ q (λ r. at_read test r.outcome) ps _ (ap (at_read test) eq) is
  two w m q (out.Forwarded u bytes) waits ps eq own is = skip _ q (λ r. at_read test r.outcome) ps _ (ap (at_read test) eq) is
  two w m q (out.Busy u) waits ps eq own is = skip _ q (λ r. at_read test r.outcome) ps _ (ap (at_read test) eq) is
  two w m q (out.Lost u) waits ps eq own is = skip _ q (λ r. at_read test r.outcome) ps _ (ap (at_read test) eq) is
  two w m q (out.Cut u) waits ps eq own is = skip _ q (λ r. at_read test r.outcome) ps _ (ap (at_read test) eq) is

  writes : (between rows : List (Row n)) → list_all is_own rows ≡ true → list_all test (ends_above t rows) ≡ list_all (λ q. at_end test q.outcome) (pending t between rows)
  writes between [] own = refl
  writes between (q ∷ rows) own =
      one (asks_write q.asks) (not (list_any (accepted_of (line_of q.asks)) between)) q q.outcome (ends_above t rows) (pending t (q ∷ between) rows) refl
      (and_first (not (is_stored q.outcome) || asks_write q.asks) _ (and_first (is_own q) _ own)) (writes (q ∷ between) rows (and_second (is_own q) _ own))

  reads : (between rows : List (Row n)) → list_all is_own rows ≡ true → list_all test (waits_above t rows) ≡ list_all (λ q. at_read test q.outcome) (waiting t between rows)
  reads between [] own = refl
  reads between (q ∷ rows) own =
      two (asks_read q.asks) (not (list_any is_cut between)) q q.outcome (waits_above t rows) (waiting t (q ∷ between) rows) refl
      (and_second (not (is_stored q.outcome) || asks_write q.asks) _ (and_first (is_own q) _ own)) (reads (q ∷ between) rows (and_second (is_own q) _ own))

pub stand_law : StandLaw
stand_law n t test rows own = record { writes = writes t test [] rows own; reads = reads t test [] rows own }
