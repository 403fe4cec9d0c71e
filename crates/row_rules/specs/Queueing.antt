-- What the rows show of a bank's write queue and of its waiting reads.
use Rattle.std.specs.List.{list_all, list_any}
use Rattle.std.specs.Prelude.{ℕ, List, [], ◌∷◌, ◌++◌, Bool, true, false, not, ◌&&◌, ◌||◌, ◌==◌, nat_lt, nat_le, if◌then◌else◌, length, filter, Option, Some, None, min}
use Rattle.result_rows.specs.declared.Outcome.{Outcome}
use Rattle.result_rows.specs.declared.Outcome.TheVariants as out
use Rattle.masked_bytes.specs.Masked.{joined, none_given, gives_all}
use Rattle.row_rules.specs.Answers.{is_merged, is_queued, is_stored, is_full, is_busy, is_answered, is_forwarded, is_lost, stored_after, stored_by, stored_before, read_after}
use Rattle.row_rules.specs.{Rows.{RowTest, asks_read, line_of, given_of, accepted, accepted_of, write_of, is_cut}, declared.Asks.Asks}
use Rattle.row_rules.specs.{declared.Asks.TheVariants.{Reads, Writes, Cuts}, declared.Row.Row, declared.Rules.Rules}

-- the lesser of a number and another, if there is one
abbrev pub least : Option ℕ → ℕ → Option ℕ
least None u = Some u
least (Some v) u = Some (min v u)

module _ {n : ℕ} where
  -- an accepted write that stands in the queue at tick t, where these rows lie between it and the row that is looked from:
  -- it is stored later, or never, or it is merged and the write that it was merged into has not come yet
  abbrev pub stands : ℕ → List (Row n) → Row n → Bool
  stands t between q =
      accepted q && (stored_after t q.outcome || (is_queued q.outcome
      || (is_merged q.outcome && not (list_any (accepted_of (line_of q.asks)) between))))

  -- the writes of these rows that stand in the queue at tick t, the newest first
  abbrev pub pending : ℕ → List (Row n) → List (Row n) → List (Row n)
  pending t between [] = []
  pending t between (q ∷ before) =
      if stands t between q then q ∷ pending t (q ∷ between) before else pending t (q ∷ between) before

  -- a read that waits at tick t: it is read later, or it is lost and the cut has not come yet
  abbrev pub awaits : ℕ → List (Row n) → Row n → Bool
  awaits t between q =
      asks_read q.asks && (read_after t q.outcome || (is_lost q.outcome && not (list_any is_cut between)))

  -- the reads of these rows that wait at tick t, the newest first
  abbrev pub waiting : ℕ → List (Row n) → List (Row n) → List (Row n)
  waiting t between [] = []
  waiting t between (q ∷ before) =
      if awaits t between q then q ∷ waiting t (q ∷ between) before else waiting t (q ∷ between) before

  -- the bytes of a line that are given by accepted writes for which neither that write nor a later one of the line is out of the queue
  abbrev pub unstored : (Outcome n → Bool) → ℕ → List (Row n) → List Bool
  unstored is_out line [] = none_given n
  unstored is_out line (q ∷ before) =
      if write_of line q && is_out q.outcome then none_given n
      else (if accepted_of line q then joined (given_of q.asks) (unstored is_out line before) else unstored is_out line before)

  -- the bytes of a line that the queue gives to a row at tick t: of accepted writes for which neither that write nor a later one is stored by then
  abbrev pub cover : ℕ → ℕ → List (Row n) → List (Row n) → List Bool
  cover t line before after =
      if list_any (λ q. write_of line q && stored_by t q.outcome) after then none_given n
      else unstored (stored_by t) line before

  -- no other of these is stored before one with this outcome leaves the queue, or at all if it never does
  abbrev pub none_before : Outcome n → List (Row n) → Bool
  none_before (out.Stored tick place) rows = list_all (λ q. not (stored_before tick q.outcome)) rows
  none_before (out.Merged tick) rows = list_all (λ q. not (stored_before tick q.outcome)) rows
  none_before _ rows = list_all (λ q. not (is_stored q.outcome)) rows

  -- the older of two entries of one line came before the newer one, is at the head of the queue, and is not merged: it was in flight
  abbrev pub is_older : List (Row n) → Row n → Row n → Bool
  is_older all newer older =
      nat_lt older.tick newer.tick && (not (is_merged older.outcome) && none_before older.outcome all)

  -- an entry finds none of its line among the older ones, or one such
  abbrev pub has_few : List (Row n) → Row n → List (Row n) → Bool
  has_few all newer [] = true
  has_few all newer (older ∷ []) = is_older all newer older
  has_few all newer (older ∷ another ∷ rest) = false

  -- at most two entries of the queue have one line, and two only as said
  abbrev pub pairs_few : List (Row n) → List (Row n) → Bool
  pairs_few all [] = true
  pairs_few all (q ∷ older) =
      has_few all q (filter (accepted_of (line_of q.asks)) older) && pairs_few all older

  -- a refused write finds no entry of its own line, or one that is at the head and was in flight
  abbrev pub is_refused : ℕ → List (Row n) → List (Row n) → Bool
  is_refused tick all [] = true
  is_refused tick all (q ∷ []) = nat_lt q.tick tick && none_before q.outcome all
  is_refused tick all (q ∷ another ∷ rest) = false

  -- the first accepted write of the line among these rows has this tick
  abbrev pub merges_at : ℕ → ℕ → List (Row n) → Bool
  merges_at line tick [] = false
  merges_at line tick (q ∷ after) = if accepted_of line q then q.tick == tick else merges_at line tick after

  -- the least tick above t at which a write of the line is stored
  abbrev pub store_of : ℕ → ℕ → Row n → Outcome n → Option ℕ → Option ℕ
  store_of t line q (out.Stored tick place) found = if write_of line q && nat_lt t tick then least found tick else found
  store_of t line q _ found = found

  abbrev pub next_store : ℕ → ℕ → List (Row n) → Option ℕ
  next_store t line [] = None
  next_store t line (q ∷ rows) = store_of t line q q.outcome (next_store t line rows)

  -- no member of another line is stored before the line's next store, or at all if it has none
  abbrev pub is_first : ℕ → Option ℕ → List (Row n) → Bool
  is_first line (Some u) rows = list_all (λ q. write_of line q || not (stored_before u q.outcome)) rows
  is_first line None rows = list_all (λ q. write_of line q || not (is_stored q.outcome)) rows

  -- the queue holds an entry of the line, and no other line's entry leaves it before the line's next store
  abbrev pub is_at_head : ℕ → ℕ → List (Row n) → List (Row n) → List (Row n) → Bool
  is_at_head t line all before after =
      list_any (write_of line) all && is_first line (next_store t line (before ++ after)) all

  -- what becomes of a read that arrives at tick t: forwarded, busy, or else read or lost
  abbrev pub read_fits : ℕ → ℕ → Bool → Bool → Outcome n → Bool
  read_fits reads count covered at_head outcome =
      if covered then is_forwarded outcome
      else (if is_forwarded outcome then at_head
      else (if count == reads then is_busy outcome else is_answered outcome || is_lost outcome))

  -- a merged write carries the tick of the write that it was merged with
  abbrev pub merge_fits : ℕ → Outcome n → List (Row n) → Bool
  merge_fits line (out.Merged tick) after = merges_at line tick after
  merge_fits line _ after = true

  -- what the queue and the waiting reads that a row finds say of its answer
  abbrev pub queue_fits : Rules → List (Row n) → List (Row n) → Row n → Asks n → List (Row n) → List (Row n) → Bool
  queue_fits rules ps ws r (Writes line bytes given) before after =
      (not (is_full r.outcome) || (length ps == rules.writes && is_refused r.tick ps (filter (write_of line) ps)))
      && merge_fits line r.outcome after
  queue_fits rules ps ws r (Reads line) before after =
      read_fits rules.reads (length ws) (gives_all (cover r.tick line before after)) (is_at_head r.tick line ps before after) r.outcome
  queue_fits rules ps ws r Cuts before after = true

  -- at tick t, behind these rows, a bank holds no more writes and reads than it may, and at most two writes of one line
  abbrev pub has_room : Rules → ℕ → List (Row n) → Bool
  has_room rules t before =
      let ps = pending t [] before in
      nat_le (length ps) rules.writes && (nat_le (length (waiting t [] before)) rules.reads && pairs_few ps ps)

  -- a row finds a bank that holds what it may, and its own answer is the one that follows
  abbrev pub is_queue_fair : Rules → RowTest n
  is_queue_fair rules before r after =
      has_room rules r.tick before
      && queue_fits rules (pending r.tick [] before) (waiting r.tick [] before) r r.asks before after
