-- What a checker keeps of a bank, beside the rows that it stands for.
use Rattle.std.specs.List.{list_all}
use Rattle.std.specs.Prelude.{◌≡◌, ℕ, ◌<◌, ◌≤◌, ◌^◌, ◌==◌, ◌&&◌, Bool, true, IsTrue, not, List, [], ◌∷◌, Option, nat_le, nat_lt, if◌then◌else◌, filter, reverse, map, min}
use Rattle.result_rows.specs.declared.Outcome.{Outcome}
use Rattle.result_rows.specs.declared.Outcome.TheVariants as out
use Rattle.row_rules.specs.{Answers.is_merged, Queueing.pending, Rows.line_of, Ticking.apart, declared.Row.Row}
use Rattle.check_judging.specs.{Distances.{is_far_below, later_of, waits_above, last_end, last_read, ends_behind}, Heads.{end_of, leave_of}, Keys.is_short, Lost.lost_since}
use Rattle.check_judging.specs.Standing.{is_own}
use Rattle.check_verdict.specs.{Members.{never, ends_elsewhere, ends_apart}, declared.members.Member.Member}

-- what a member says of its row
pub record Sight : Type 0 where
  pub line : ℕ
  pub arrived : ℕ
  pub end : ℕ
  pub leave : ℕ
  pub merged : Bool

abbrev pub sight : Member → Sight
sight m = record { line = m.line; arrived = m.arrived; end = m.end; leave = m.leave; merged = m.merged }

abbrev pub sight_of : {n : ℕ} → Row n → Sight
sight_of q = record { line = line_of q.asks; arrived = q.tick; end = end_of never q.outcome; leave = leave_of never q.outcome; merged = is_merged q.outcome }

-- the members, the oldest first, are these rows, the newest first
abbrev pub Shows : {n : ℕ} → List Member → List (Row n) → Type 0
Shows members rows = map sight members ≡ reverse (map sight_of rows)

-- what is kept of a bank at tick t, these being its rows, the newest first
pub record KeptBank {n : ℕ} (t : ℕ) (rows : List (Row n)) (members : List Member) (waits : List ℕ) (lost : ℕ) (last_answer last_store : Option ℕ) : Type 0 where
  pub own : IsTrue (list_all is_own rows)
  pub writes : Shows members (pending t [] rows)
  pub to_come : waits ≡ reverse (waits_above t rows)
  pub losing : lost ≡ lost_since [] rows
  pub answered : (read u : ℕ) → is_far_below read u last_answer ≡ is_far_below read u (last_read rows)
  pub stored : (read u : ℕ) → is_far_below read u last_store ≡ is_far_below read u (last_end t rows)

module _ {n : ℕ} where
  -- the distances of a row from those before it, by what is kept
  abbrev pub apart_kept : ℕ → List Member → List ℕ → Option ℕ → Option ℕ → Outcome n → Bool
  apart_kept read members waits last_answer last_store (out.Stored u place) =
      is_far_below read u last_store && (list_all (λ m. ends_apart read u m) members && list_all (λ v. not (u == v)) waits)
  apart_kept read members waits last_answer last_store (out.Read u place bytes) =
      is_far_below read u last_answer && list_all (λ m. ends_elsewhere u m) members
  apart_kept read members waits last_answer last_store _ = true

abbrev pub ApartKeptLaw : Type 0
ApartKeptLaw =
    (n read t : ℕ) (o : Outcome n) (rows : List (Row n)) (members : List Member) (waits : List ℕ) (lost : ℕ) (last_answer last_store : Option ℕ)
    → KeptBank t rows members waits lost last_answer last_store → IsTrue (is_short o) → read < 2 ^ 32 → IsTrue (ends_behind t o)
    → list_all (λ q. apart read o q.outcome) rows ≡ apart_kept read members waits last_answer last_store o

-- the last tick at which a write was stored, once those members have left that are stored by tick u
abbrev pub ended : ℕ → List Member → Option ℕ → Option ℕ
ended u [] last_store = last_store
ended u (m ∷ members) last_store = ended u members (if nat_le m.end u then later_of m.end last_store else last_store)

-- the least of a tick and those at which these are stored
abbrev pub least_end : ℕ → List Member → ℕ
least_end first [] = first
least_end first (m ∷ members) = least_end (min first m.end) members

-- what is kept, as time passes
abbrev pub SettleKeptLaw : Type 0
SettleKeptLaw =
    (n t u : ℕ) (rows : List (Row n)) (members : List Member) (waits : List ℕ) (lost : ℕ) (last_answer last_store : Option ℕ)
    → t ≤ u → u < never → KeptBank t rows members waits lost last_answer last_store
    → KeptBank u rows (filter (λ m. not (nat_le m.end u)) members) (filter (λ v. nat_lt u v) waits) lost last_answer (ended u members last_store)
