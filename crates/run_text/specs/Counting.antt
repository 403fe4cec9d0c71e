-- How many rows of a finished table have each outcome, and how one more is counted.
use Rattle.std.specs.Prelude.{ℕ, ◌+◌, Bool, true, false, cond, List, count_by}
use Rattle.result_rows.specs.declared.Outcome.{Outcome}
use Rattle.result_rows.specs.declared.Outcome.TheVariants as out
use Rattle.row_rules.specs.Answers.{is_stored, is_merged, is_queued, is_full, is_worn, is_answered, is_forwarded, is_busy, is_lost}
use Rattle.run_text.specs.declared.counts.OutcomeCounts.{OutcomeCounts}

module _ {n : ℕ} where
  -- the outcome of a cut
  abbrev pub is_cut : Outcome n → Bool
  is_cut (out.Cut tick) = true
  is_cut _ = false

  -- for each outcome, how many of these have it; one that isn't set is counted nowhere
  abbrev pub counts_of : List (Outcome n) → OutcomeCounts
  counts_of outcomes = record {
    stored = count_by is_stored outcomes;
    merged = count_by is_merged outcomes;
    queued = count_by is_queued outcomes;
    full = count_by is_full outcomes;
    worn = count_by is_worn outcomes;
    read = count_by is_answered outcomes;
    forwarded = count_by is_forwarded outcomes;
    busy = count_by is_busy outcomes;
    lost = count_by is_lost outcomes;
    cut = count_by is_cut outcomes;
  }

  -- the counts with one outcome more
  abbrev pub with_one : OutcomeCounts → Outcome n → OutcomeCounts
  with_one counts outcome = record {
    stored = cond (is_stored outcome) (counts.stored + 1) counts.stored;
    merged = cond (is_merged outcome) (counts.merged + 1) counts.merged;
    queued = cond (is_queued outcome) (counts.queued + 1) counts.queued;
    full = cond (is_full outcome) (counts.full + 1) counts.full;
    worn = cond (is_worn outcome) (counts.worn + 1) counts.worn;
    read = cond (is_answered outcome) (counts.read + 1) counts.read;
    forwarded = cond (is_forwarded outcome) (counts.forwarded + 1) counts.forwarded;
    busy = cond (is_busy outcome) (counts.busy + 1) counts.busy;
    lost = cond (is_lost outcome) (counts.lost + 1) counts.lost;
    cut = cond (is_cut outcome) (counts.cut + 1) counts.cut;
  }
