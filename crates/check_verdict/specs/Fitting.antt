-- The queue's rule in the words of what is kept of a bank.
use Rattle.std.specs.List.{list_all, list_any}
use Rattle.std.specs.Prelude.{ℕ, ◌+◌, ◌==◌, ◌&&◌, ◌||◌, Bool, true, false, not, List, [], ◌∷◌, Option, Some, None, length, reverse, nat_le, nat_lt, if◌then◌else◌}
use Rattle.result_rows.specs.declared.Outcome.{Outcome}
use Rattle.result_rows.specs.declared.Outcome.TheVariants as out
use Rattle.row_rules.specs.{Answers.is_full, declared.Row.Row}
use Rattle.check_judging.specs.{Few.few_by, Keys.{reach, key, up_to}}
use Rattle.check_verdict.specs.{Covering.comes_by, Members.never, declared.members.Member.Member}

-- a member is of this line
abbrev pub is_of : ℕ → Member → Bool
is_of line m = m.line == line

-- none of these is stored before this one leaves
abbrev pub leaves_first : List Member → Member → Bool
leaves_first all older = list_all (λ m. nat_le older.leave m.end) all

-- of two members of one line the older came before the newer, isn't merged, and leaves first
abbrev pub precedes : List Member → Member → Member → Bool
precedes all newer older = nat_lt older.arrived newer.arrived && (not older.merged && leaves_first all older)

-- two of these have one line
abbrev pub has_twins : List Member → Bool
has_twins [] = false
has_twins (m ∷ ms) = list_any (is_of m.line) ms || has_twins ms

-- how many of these have a later one of their line
abbrev pub twins_in : List Member → ℕ
twins_in [] = 0
twins_in (m ∷ ms) = (if list_any (is_of m.line) ms then 1 else 0) + twins_in ms

-- a member isn't stored before all of these
abbrev pub follows : Member → List Member → Bool
follows new others = new.end == never || list_any (λ m. nat_le m.end new.end) others

-- the newest of these members finds few of its line, and isn't stored first where two of a line stand
abbrev pub joins_well : List Member → Member → List Member → Bool
joins_well all new others = few_by (is_of new.line) (precedes all new) others && (follows new others || not (has_twins others))

-- these members are in order, the newest first, where all but the newest are
abbrev pub newest_fits : List Member → Bool
newest_fits [] = true
newest_fits (new ∷ others) = joins_well (new ∷ others) new others

-- the same, the oldest first
abbrev pub in_order : List Member → Bool
in_order members = newest_fits (reverse members)

-- a bank holds no more than it may, where its pairs are in order but for the newest member
abbrev pub room_kept : ℕ → ℕ → List Member → List ℕ → ℕ → Bool
room_kept writes reads members waits lost = nat_le (length members) writes && (nat_le (length waits + lost) reads && in_order members)

-- a refused write finds no member of its line, or one that came before and leaves first
abbrev pub refused_kept : ℕ → ℕ → List Member → Bool
refused_kept tick line members = few_by (is_of line) (λ m. nat_lt m.arrived tick && leaves_first members m) members

-- a tick, if there is one, is that one
abbrev pub comes_at : ℕ → Option ℕ → Bool
comes_at tick None = false
comes_at tick (Some at) = at == tick

-- of these sorted keys of a line's stores some lie above tick t and up to e
abbrev pub stores_between : List ℕ → ℕ → ℕ → ℕ → Bool
stores_between keys line t e = nat_lt (up_to (key line t) keys) (up_to (key line e) keys)

-- a member is of this line, or is never stored, or is so no sooner than the line's next store above tick t
abbrev pub is_behind_store : List ℕ → ℕ → ℕ → Member → Bool
is_behind_store keys line t m = m.line == line || (m.end == never || stores_between keys line t m.end)

-- a member is of this line, or is never stored, or is so no sooner than the line's next store, which has this key
abbrev pub is_behind_next : Option ℕ → ℕ → Member → Bool
is_behind_next next line m = m.line == line || (m.end == never || comes_by (key line m.end) next)

-- a member has the line, and none of another line is stored before the line's next store
abbrev pub at_head_kept : List ℕ → ℕ → ℕ → List Member → Bool
at_head_kept keys line t members = list_any (is_of line) members && list_all (is_behind_store keys line t) members

module _ {n : ℕ} where
  -- a merged write carries the tick of the next accepted write of its line
  abbrev pub merge_kept : Option ℕ → Outcome n → Bool
  merge_kept next (out.Merged tick) = comes_at tick next
  merge_kept next _ = true

  -- what the queue says of a write
  abbrev pub write_fits : ℕ → ℕ → ℕ → List Member → Option ℕ → Outcome n → Bool
  write_fits writes tick line members next outcome =
      (not (is_full outcome) || (length members == writes && refused_kept tick line members)) && merge_kept next outcome

  -- the tick of an outcome lies below the reach
  abbrev pub is_brief : Outcome n → Bool
  is_brief out.Unset = true
  is_brief (out.Stored u place) = nat_lt u reach
  is_brief (out.Merged u) = nat_lt u reach
  is_brief (out.Queued u) = nat_lt u reach
  is_brief (out.Full u) = nat_lt u reach
  is_brief (out.Worn u) = nat_lt u reach
  is_brief (out.Read u place bytes) = nat_lt u reach
  is_brief (out.Forwarded u bytes) = nat_lt u reach
  is_brief (out.Busy u) = nat_lt u reach
  is_brief (out.Lost u) = nat_lt u reach
  is_brief (out.Cut u) = nat_lt u reach

  abbrev pub all_brief : List (Row n) → Bool
  all_brief rows = list_all (λ q. is_brief q.outcome) rows
