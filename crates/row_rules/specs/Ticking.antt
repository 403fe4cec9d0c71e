-- What the rows show of a bank's times.
use Rattle.std.specs.{List.list_all, Prelude.{ℕ, List, [], ◌∷◌, ◌++◌, ◌+◌, ◌*◌, Bool, true, false, not, ◌&&◌, ◌||◌, ◌==◌, nat_lt, nat_le, if◌then◌else◌, length, max, count_by}}
use Rattle.result_rows.specs.declared.Outcome.{Outcome}
use Rattle.result_rows.specs.declared.Outcome.TheVariants as out
use Rattle.row_rules.specs.{Answers.{is_answered, is_lost, stored_after, stored_by, read_after, read_by}, Queueing.waiting, Rows.{RowTest, asks_read, asks_write, is_cut}}
use Rattle.row_rules.specs.{declared.Asks.Asks, declared.Asks.TheVariants.{Reads, Writes, Cuts}, declared.Row.Row, declared.Rules.Rules}
use Rattle.bank_shape.specs.{declared.pace.Policy.Policy, declared.pace.Policy.TheVariants.{Pause, Plain, Cancel}}

-- the longest time of one attempt to write a line: a sense, and then at most so many iterations
abbrev pub attempt : Rules → ℕ
attempt rules = rules.read_ticks + rules.steps * rules.iter_ticks

-- how often one line write may be begun: reads cancel it at most four times
abbrev pub tries : Policy → ℕ
tries Pause = 1
tries Plain = 1
tries Cancel = 5

-- how many line writes an event brings: its own, and perhaps that of the registers
abbrev pub writings : Bool → ℕ
writings twice = if twice then 2 else 1

-- the longest time until a write is stored, in which w writes are stored, s reads are read and c cuts come
abbrev pub longest : Rules → ℕ → ℕ → ℕ → ℕ
longest rules w s c =
    tries rules.policy * attempt rules * (writings rules.twice * (2 * w + rules.spares) + c) + rules.read_ticks * (2 * s + c)

module _ {n : ℕ} where
  -- the greatest tick up to a at which a write is stored, or 0
  abbrev pub store_up_to : ℕ → Outcome n → ℕ → ℕ
  store_up_to a (out.Stored tick place) found = if nat_le tick a then max tick found else found
  store_up_to a _ found = found

  -- the same over all these rows
  abbrev pub last_store : ℕ → List (Row n) → ℕ
  last_store a [] = 0
  last_store a (q ∷ rows) = if asks_write q.asks then store_up_to a q.outcome (last_store a rows) else last_store a rows

  -- how many reads arrived at tick v or later and are read or lost
  abbrev pub came_since : ℕ → List (Row n) → ℕ
  came_since v rows = count_by (λ q. asks_read q.asks && (nat_le v q.tick && (is_answered q.outcome || is_lost q.outcome))) rows

  -- how long a read that arrives at tick a may find its bank busy with something else than reads
  abbrev pub delay : Rules → Policy → ℕ → List (Row n) → List (Row n) → ℕ
  delay rules Pause a before after = max rules.read_ticks rules.iter_ticks
  delay rules Plain a before after = attempt rules
  delay rules Cancel a before after =
      if nat_lt (came_since (last_store a (before ++ after)) before) 4 then 0 else max rules.read_ticks rules.iter_ticks

  -- the tick by which a read that arrives at tick a has ended, unless a cut came before
  abbrev pub bound : Rules → ℕ → List (Row n) → List (Row n) → ℕ
  bound rules a before after =
      a + delay rules rules.policy a before after + (length (waiting a [] before) + 1) * rules.read_ticks

  -- no cut comes below tick u
  abbrev pub no_cut_below : ℕ → List (Row n) → Bool
  no_cut_below u rows = list_all (λ q. not (is_cut q) || nat_le u q.tick) rows

  -- the first cut has tick u
  abbrev pub first_cut_at : ℕ → List (Row n) → Bool
  first_cut_at u [] = false
  first_cut_at u (q ∷ rows) = if is_cut q then q.tick == u else first_cut_at u rows

  -- a read is read in time, and not behind a cut; or it is lost at the first cut behind it, before its time is up
  abbrev pub read_in_time : Rules → ℕ → Outcome n → List (Row n) → List (Row n) → Bool
  read_in_time rules a (out.Read u place bytes) before after =
      nat_le (a + rules.read_ticks) u && (nat_le u (bound rules a before after) && no_cut_below u after)
  read_in_time rules a (out.Lost u) before after = first_cut_at u after && nat_lt u (bound rules a before after)
  read_in_time rules a _ before after = true

  -- how many writes are stored at ticks above a and at most u, how many reads are read then, and how many cuts come up to u
  abbrev pub stores_in : ℕ → ℕ → List (Row n) → ℕ
  stores_in a u rows = count_by (λ q. asks_write q.asks && (stored_after a q.outcome && stored_by u q.outcome)) rows

  abbrev pub reads_in : ℕ → ℕ → List (Row n) → ℕ
  reads_in a u rows = count_by (λ q. asks_read q.asks && (read_after a q.outcome && read_by u q.outcome)) rows

  abbrev pub cuts_to : ℕ → List (Row n) → ℕ
  cuts_to u rows = count_by (λ q. is_cut q && nat_le q.tick u) rows

  -- a write is stored after its arrival, and in time
  abbrev pub store_in_time : Rules → Row n → Outcome n → List (Row n) → List (Row n) → Bool
  store_in_time rules r (out.Stored u place) before after =
      let all = before ++ r ∷ after in
      nat_lt r.tick u
      && nat_le u (r.tick + longest rules (stores_in r.tick u all) (reads_in r.tick u all) (cuts_to u after))
  store_in_time rules r _ before after = true

  -- of two rows, the second the lower one: a bank does one action at a time, and serves its reads in their order
  abbrev pub apart : ℕ → Outcome n → Outcome n → Bool
  apart read (out.Stored u place) (out.Stored v other) = nat_le (u + read) v || nat_le (v + read) u
  apart read (out.Stored u place) (out.Read v other bytes) = not (u == v)
  apart read (out.Read u place bytes) (out.Stored v other) = not (u == v)
  apart read (out.Read u place bytes) (out.Read v other some) = nat_le (v + read) u
  apart read _ _ = true

  abbrev pub asks_in_time : Rules → Row n → Asks n → List (Row n) → List (Row n) → Bool
  asks_in_time rules r (Reads line) before after = read_in_time rules r.tick r.outcome before after
  asks_in_time rules r (Writes line bytes given) before after = store_in_time rules r r.outcome before after
  asks_in_time rules r Cuts before after = true

  -- a row is read or stored in time, and apart from every row before it
  abbrev pub is_in_time : Rules → RowTest n
  is_in_time rules before r after =
      asks_in_time rules r r.asks before after && list_all (λ q. apart rules.read_ticks r.outcome q.outcome) before
