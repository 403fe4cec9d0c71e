-- What is kept of a bank, with a read more.
use Rattle.std.proofs.Common.{◌≡◌, ℕ, ◌+◌, ◌&&◌, ◌||◌, true, false, List, [], ◌∷◌, ◌++◌, refl, sym, ap, ◌∙◌, cond, arith}
use Rattle.std.{specs.Prelude.{nat_le, not, reverse, map, filter}, proofs.lemmas.Bool.{lt-ltb, and_from, or_right}, proofs.lemmas.List.reverse-append}
use Rattle.result_rows.specs.declared.Outcome.{Outcome}
use Rattle.result_rows.specs.declared.Outcome.TheVariants as out
use Rattle.row_rules.specs.{Answers.{accepts, is_stored, is_answered, is_merged, is_queued, is_lost, stored_after}, Queueing.{stands, pending}}
use Rattle.row_rules.specs.{Rows.{asks_read, asks_write, asks_write_of, asks_cut, line_of}, declared.Asks.Asks, declared.Asks.TheVariants.{Reads, Writes, Cuts}, declared.Row.Row}
use Rattle.check_judging.specs.{Distances.{is_far_below, wait_above, waits_above, end_to, last_end, read_to, last_read}, Lost.lost_since, Standing.is_own, Steps.stays_behind}
use Rattle.check_judging.proofs.{Apart.far_later, Steps.step_law}
use Rattle.check_verdict.{specs.Joined.{AnswerKeptLaw, LossKeptLaw}, specs.Kept.sight_of, proofs.Joins.{filter-all, not_both, lost_same}}

module _ {n : ℕ} where
  reads_only : (asks : Asks n) → asks_read asks ≡ true → (asks_write asks ≡ false) × (asks_cut asks ≡ false) × ((line : ℕ) → asks_write_of line asks ≡ false)
  reads_only (Reads line) h = (refl, refl, λ other. refl)
  reads_only (Writes line bytes given) h = absurd (cc)
  reads_only Cuts h = absurd (cc)

  -- a read leaves the writes as they stand
  writes_same : (t : ℕ) (r : Row n) (rows : List (Row n)) → asks_read r.asks ≡ true → pending t [] (r ∷ rows) ≡ pending t [] rows
  writes_same t r rows reads =
      let only = reads_only r.asks reads in
      let gone : stands t [] r ≡ false = ap (λ b. (b && accepts r.outcome) && (stored_after t r.outcome || (is_queued r.outcome || (is_merged r.outcome && true)))) only.0 in
      (step_law n t r rows).writes
      ∙ ap (λ b. cond b (r ∷ filter (stays_behind r) (pending t [] rows)) (filter (stays_behind r) (pending t [] rows))) gone
      ∙ filter-all (pending t [] rows) (stays_behind r)
      (λ q. ap (λ b. not (is_merged q.outcome && (b && accepts r.outcome))) (only.2 (line_of q.asks)) ∙ not_both (is_merged q.outcome))

  own_read : (r : Row n) (o : Outcome n) → r.outcome ≡ o → asks_read r.asks ≡ true → is_stored o ≡ false → is_own r ≡ true
  own_read r o is reads stored =
      and_from (not (is_stored r.outcome) || asks_write r.asks) _ (ap (λ b. not b || asks_write r.asks) (ap is_stored is ∙ stored))
      (ap (λ b. not (is_answered r.outcome) || b) reads ∙ or_right (not (is_answered r.outcome)) true refl)

pub answer_kept_law : AnswerKeptLaw
answer_kept_law n t u place bytes r rows members waits lost last_answer last_store kept reads is above = record {
  own = and_from (is_own r) _ (own_read r (out.Read u place bytes) is reads refl) kept.own;
  writes = kept.writes ∙ ap (λ qs. reverse (map sight_of qs)) (sym (writes_same t r rows reads));
  to_come =
      ap (λ vs. vs ++ u ∷ []) kept.to_come
      ∙ sym (reverse-append (u ∷ []) (waits_above t rows))
      ∙ ap (λ b. reverse (cond b (u ∷ waits_above t rows) (waits_above t rows))) (sym (lt-ltb t u above))
      ∙ ap (λ o. reverse (wait_above t o (waits_above t rows))) (sym is);
  losing =
      let k : lost_since (r ∷ []) rows ≡ lost_since [] rows = lost_same (r ∷ []) [] rows (ap (λ b. b || false) (reads_only r.asks reads).1) in
      kept.losing
      ∙ sym (ap (λ b. cond (b && (is_lost r.outcome && true)) 1 0 + lost_since (r ∷ []) rows) reads
      ∙ ap (λ o. cond (is_lost o && true) 1 0 + lost_since (r ∷ []) rows) is
      ∙ omega (arith, k));
  answered = λ read x.
      far_later read x u last_answer
      ∙ ap (λ b. nat_le (u + read) x && b) (kept.answered read x)
      ∙ sym (far_later read x u (last_read rows))
      ∙ ap (λ o. is_far_below read x (read_to o (last_read rows))) (sym is);
  stored = λ read x. kept.stored read x ∙ ap (λ o. is_far_below read x (end_to t o (last_end t rows))) (sym is);
}

pub loss_kept_law : LossKeptLaw
loss_kept_law n t u r rows members waits lost last_answer last_store kept reads is = record {
  own = and_from (is_own r) _ (own_read r (out.Lost u) is reads refl) kept.own;
  writes = kept.writes ∙ ap (λ qs. reverse (map sight_of qs)) (sym (writes_same t r rows reads));
  to_come = kept.to_come ∙ ap (λ o. reverse (wait_above t o (waits_above t rows))) (sym is);
  losing =
      let k : lost_since (r ∷ []) rows ≡ lost_since [] rows = lost_same (r ∷ []) [] rows (ap (λ b. b || false) (reads_only r.asks reads).1) in
      let l : lost ≡ lost_since [] rows = kept.losing in
      sym (ap (λ b. cond (b && (is_lost r.outcome && true)) 1 0 + lost_since (r ∷ []) rows) reads
      ∙ ap (λ o. cond (is_lost o && true) 1 0 + lost_since (r ∷ []) rows) is
      ∙ omega (arith, k, l));
  answered = λ read x. kept.answered read x ∙ ap (λ o. is_far_below read x (read_to o (last_read rows))) (sym is);
  stored = λ read x. kept.stored read x ∙ ap (λ o. is_far_below read x (end_to t o (last_end t rows))) (sym is);
}
