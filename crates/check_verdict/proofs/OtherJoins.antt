-- What is kept of a bank, behind a row that changes nothing.
use Rattle.std.proofs.Common.{◌≡◌, ℕ, ◌+◌, ◌&&◌, ◌||◌, ◌==◌, Bool, true, false, [], ◌∷◌, Option, refl, sym, ap, ◌∙◌, cond, arith}
use Rattle.std.{specs.Prelude.{not, reverse, map, filter}, proofs.lemmas.Bool.and_from}
use Rattle.masked_bytes.proofs.{Counting.one_if, Truth.and_false}
use Rattle.result_rows.specs.declared.Outcome.{Outcome}
use Rattle.result_rows.specs.declared.Outcome.TheVariants as out
use Rattle.row_rules.specs.{Answers.{accepts, is_stored, is_merged, is_queued, stored_after}, Queueing.pending, Rows.{asks_read, asks_write, asks_write_of, line_of}}
use Rattle.row_rules.specs.{declared.Asks.Asks, declared.Asks.TheVariants.{Reads, Writes, Cuts}}
use Rattle.check_judging.specs.{Distances.{is_far_below, waits_above, end_to, last_end, last_read}, Lost.lost_since, Standing.is_own, Steps.stays_behind}
use Rattle.check_judging.proofs.Steps.{step_law}
use Rattle.check_verdict.{specs.Joined.OtherKeptLaw, specs.Kept.sight_of, proofs.Joins.{filter-all, not_both, lost_same, no_wait, no_answer}}

no_loss : (a : Bool) → one_if (a && false) ≡ one_if false
no_loss true = refl
no_loss false = refl

module _ {n : ℕ} where
  of_no_line : (o : Outcome n) (asks : Asks n) → (asks_write asks && accepts o) ≡ false → (line : ℕ) → (asks_write_of line asks && accepts o) ≡ false
  of_no_line o (Reads at) h line = refl
  of_no_line o (Writes at bytes given) h line = ap (λ b. (at == line) && b) h ∙ and_false (at == line)
  of_no_line o Cuts h line = refl

  no_end : (t : ℕ) (o : Outcome n) (last : Option ℕ) → is_stored o ≡ false → end_to t o last ≡ last
  no_end t (out.Stored u place) last h = absurd (cc)
  no_end t _ last h = refl

pub other_kept_law : OtherKeptLaw
other_kept_law n t r rows members waits lost last_answer last_store kept own refused whole stored answered gone =
    let k : lost_since (r ∷ []) rows ≡ lost_since [] rows = lost_same (r ∷ []) [] rows (ap (λ b. b || false) whole) in
    record {
      own = and_from (is_own r) _ own kept.own;
      writes =
          kept.writes
          ∙ ap (λ qs. reverse (map sight_of qs))
          (sym ((step_law n t r rows).writes
          ∙ ap (λ b. cond (b && (stored_after t r.outcome || (is_queued r.outcome || (is_merged r.outcome && true)))) (r ∷ filter (stays_behind r) (pending t [] rows)) (filter (stays_behind r) (pending t [] rows))) refused
          ∙ filter-all (pending t [] rows) (stays_behind r) (λ q. ap (λ b. not (is_merged q.outcome && b)) (of_no_line r.outcome r.asks refused (line_of q.asks)) ∙ not_both (is_merged q.outcome))));
      to_come = kept.to_come ∙ ap reverse (sym (no_wait t r.outcome (waits_above t rows) answered));
      losing =
          kept.losing
          ∙ sym (ap (λ b. cond (asks_read r.asks && (b && true)) 1 0 + lost_since (r ∷ []) rows) gone
          ∙ ap (λ c. c + lost_since (r ∷ []) rows) (no_loss (asks_read r.asks))
          ∙ omega (arith, k));
      answered = λ read x. kept.answered read x ∙ ap (is_far_below read x) (sym (no_answer r.outcome (last_read rows) answered));
      stored = λ read x. kept.stored read x ∙ ap (is_far_below read x) (sym (no_end t r.outcome (last_end t rows) stored));
    }
