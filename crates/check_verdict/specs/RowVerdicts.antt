-- A row's verdict in the words of the code: what is kept of its bank, sorted keys of the whole table, and what is known of later rows.
use Rattle.std.specs.{List.Sorted.IsNonDecreasing, Prelude.{ℕ, ◌+◌, ◌≤◌, ◌&&◌, ◌||◌, not, Bool, true, List, Option, length}}
use Rattle.masked_bytes.specs.Masked.{gives_all}
use Rattle.result_rows.specs.declared.Outcome.{Outcome}
use Rattle.row_rules.specs.{Answers.is_worn, Queueing.read_fits, Serving.may_have, declared.Row.Row, declared.Rules.Rules}
use Rattle.check_verdict.specs.{Ahead.{bound_kept, latest_kept, at_store}, Covering.{soonest, cover_kept}, Fitting.{at_head_kept, write_fits}, Judged.{beside, first_broken}}
use Rattle.check_verdict.specs.{Keeping.{stored_early, read_timely, write_timely}, Kept.apart_kept, QueueLaws.next_accepted, States.Facts, Timely.first_of_ticks, Worn.first_worn}
use Rattle.check_verdict.specs.{declared.Rule.Rule, declared.known.Coming.Coming, declared.known.Keys.Keys, declared.lines.CheckedLine.CheckedLine}

-- keys of a table are sorted, and few
pub record AreUsable (keys : Keys) : Type 0 where
  pub stores_sorted : IsNonDecreasing keys.stores.items
  pub reads_sorted : IsNonDecreasing keys.reads.items
  pub lines_sorted : IsNonDecreasing keys.lines.items
  pub few_stores : length keys.stores.items ≤ 400000
  pub few_reads : length keys.reads.items ≤ 400000

-- what the rows behind a row of a line bring: the next accepted write of the line, the first of the line's stores, and the first worn row of its bank
abbrev pub coming_to : {n : ℕ} → List ℕ → ℕ → List (Row n) → Coming
coming_to banks line after = record {
  next = next_accepted line (beside banks line after);
  soonest = soonest line (beside banks line after);
  worn = first_worn (beside banks line after);
}

-- a row's action lies apart from those that its bank still knows of
abbrev pub is_apart : {n : ℕ} → ℕ → Facts → Outcome n → Bool
is_apart read f outcome = apart_kept read f.members f.waits f.last_answer f.last_store outcome

-- the queue gives each byte of a line
abbrev pub is_covered : {n : ℕ} → CheckedLine n → ℕ → Coming → Bool
is_covered {n} kept tick coming = gives_all (cover_kept n tick coming.soonest kept.unclosed kept.runs.items)

module _ (rules : Rules) (number : ℕ) (f : Facts) where
  -- the tick by which a write that is stored must be
  abbrev pub stored_by : {n : ℕ} → Keys → List ℕ → ℕ → Outcome n → ℕ
  stored_by keys cuts tick outcome = at_store (latest_kept rules keys.stores.items keys.reads.items cuts number tick) outcome

  -- the tick by which a read has ended
  abbrev pub read_by : Keys → ℕ → ℕ
  read_by keys tick = bound_kept rules keys.stores.items number tick f.fourth (length f.waits + f.lost)

  -- the verdict on a write of a line of this bank, by the line's newest bytes, each bank's room, the keys, what comes, and the cuts to come
  abbrev pub write_verdict : {n : ℕ} → List ℕ → ℕ → Row n → Bool → Keys → Coming → List ℕ → Option Rule
  write_verdict newest line r room keys coming cuts =
      first_broken (may_have r.tick r.asks newest r.outcome) room
      (write_fits rules.writes r.tick line f.members coming.next r.outcome)
      (is_worn r.outcome || (not f.worn && stored_early coming.worn r.outcome))
      (write_timely r.tick (stored_by keys cuts r.tick r.outcome) r.outcome && is_apart rules.read_ticks f r.outcome)

  -- the verdict on a read, by what is kept of its line in place of its newest bytes
  abbrev pub read_verdict : {n : ℕ} → CheckedLine n → ℕ → Row n → Bool → Keys → Coming → List ℕ → Option Rule
  read_verdict kept line r room keys coming cuts =
      first_broken (may_have r.tick r.asks kept.newest r.outcome) room
      (read_fits rules.reads (length f.waits + f.lost) (is_covered kept r.tick coming) (at_head_kept keys.lines.items line r.tick f.members) r.outcome)
      true
      (read_timely r.tick rules.read_ticks (read_by keys r.tick) (first_of_ticks cuts) r.outcome && is_apart rules.read_ticks f r.outcome)
