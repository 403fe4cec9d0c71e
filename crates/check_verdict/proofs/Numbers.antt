-- How many writes stand and how many reads wait, by what is kept.
use Rattle.std.proofs.Common.{◌≡◌, ◌+◌, [], length, sym, ap, ◌∙◌, arith}
use Rattle.std.{specs.Prelude.map, proofs.lemmas.List.{length-reverse, length-map}}
use Rattle.row_rules.specs.Queueing.{pending, waiting}
use Rattle.check_judging.{specs.Distances.waits_above, specs.Lost.lost_since, proofs.Losing.waiting_law}
use Rattle.check_verdict.specs.{Kept.{sight, sight_of}, Queues.NumbersLaw}

pub numbers_law : NumbersLaw
numbers_law n t rows members waits lost last_answer last_store kept = record {
  writes =
      sym (length-map (pending t [] rows) sight_of)
      ∙ sym (length-reverse (map sight_of (pending t [] rows)))
      ∙ ap length (sym kept.writes)
      ∙ length-map members sight;
  reads =
      let w : length waits ≡ length (waits_above t rows) = ap length kept.to_come ∙ length-reverse (waits_above t rows) in
      let l : lost ≡ lost_since [] rows = kept.losing in
      let k : length (waiting t [] rows) ≡ length (waits_above t rows) + lost_since [] rows = waiting_law n t rows kept.own in
      omega (arith, w, l, k);
}
