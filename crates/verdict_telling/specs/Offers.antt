-- What is told to be right for a row: lines, each of which offers outcomes.
use Rattle.std.specs.List.{list_all, list_any}
use Rattle.std.specs.Prelude.{ℕ, ◌+◌, ◌++◌, ◌==◌, ◌&&◌, ◌||◌, not, Bool, true, false, if◌then◌else◌, List, [], ◌∷◌, Option, Some, None, nat_le, nat_lt, option_to_list}
use Rattle.result_rows.specs.declared.Outcome.{Outcome}
use Rattle.result_rows.specs.declared.Outcome.TheVariants as out
use Rattle.row_rules.specs.{Serving.same_bytes, Ticking.{stores_in, reads_in, cuts_to}, declared.Row.Row, declared.Rules.Rules}
use Rattle.check_telling.specs.{Standing.tick_at, WriteGrounds.by_bound, declared.facts.RowAt.RowAt, declared.facts.StoreBound.StoreBound, declared.grounds.Grounds.Grounds}
use Rattle.check_telling.specs.declared.writes.WriteGrounds.{WriteGrounds}
use Rattle.clause_telling.specs.declared.room.Crowd.{Crowd}
use Rattle.verdict_telling.specs.declared.row.Finds.{Finds}
use Rattle.verdict_telling.specs.declared.row.Finds.TheVariants as finds

-- when a write may be stored: behind a tick and by a bound, below another tick, a distance from some, and at none of others
pub record Stores : Type 0 where
  pub behind : ℕ
  pub bound : StoreBound
  pub below : Option ℕ
  pub distance : ℕ
  pub far : List ℕ
  pub but : List ℕ

-- a line: read from a tick to another but at some, with these bytes; lost at a cut; busy, or forwarded with these bytes; stored; merged at
-- the tick of a later write; queued, full or worn; or a cut
pub data Offer : Type 0 where
  Read : ℕ → ℕ → List ℕ → List ℕ → Offer
  Lost : ℕ → Offer
  Busy : ℕ → Offer
  Forwarded : ℕ → List ℕ → Offer
  Stored : Stores → Offer
  Merged : ℕ → Offer
  Queued : ℕ → Offer
  Full : ℕ → Offer
  Worn : ℕ → Offer
  Cut : ℕ → Offer

-- ---- what a line offers

-- a tick is none of these
abbrev pub is_none_of : ℕ → List ℕ → Bool
is_none_of u ticks = list_all (λ v. not (u == v)) ticks

-- it is one from a tick to another, and none of these
abbrev pub is_within : ℕ → ℕ → List ℕ → ℕ → Bool
is_within from to but u = (nat_le from u && nat_le u to) && is_none_of u but

-- it lies below another, if there is one
abbrev pub is_below : ℕ → Option ℕ → Bool
is_below u None = true
is_below u (Some v) = nat_lt u v

module _ {n : ℕ} (past later : List (Row n)) where
  -- a write whose bank has these rows before it and behind it may be stored at a tick: by its bound, with the stores and the reads above its
  -- own tick and up to this one, and the cuts behind it up to this one
  abbrev pub may_store : Stores → ℕ → Bool
  may_store s u =
      is_below u s.below
      && ((nat_lt s.behind u && nat_le u (s.behind + by_bound s.bound (stores_in s.behind u (past ++ later)) (reads_in s.behind u (past ++ later)) (cuts_to u later)))
      && (list_all (λ v. nat_le (u + s.distance) v || nat_le (v + s.distance) u) s.far && is_none_of u s.but))

  -- a line offers an outcome of a row of this bank; places aren't looked at
  abbrev pub offers : Outcome n → Offer → Bool
  offers (out.Read u place told) (Read from to but bytes) = is_within from to but u && same_bytes told bytes
  offers (out.Lost u) (Lost tick) = tick == u
  offers (out.Busy u) (Busy tick) = u == tick
  offers (out.Forwarded u told) (Forwarded tick bytes) = u == tick && same_bytes told bytes
  offers (out.Stored u place) (Stored s) = may_store s u
  offers (out.Merged u) (Merged tick) = tick == u
  offers (out.Queued u) (Queued tick) = u == tick
  offers (out.Full u) (Full tick) = u == tick
  offers (out.Worn u) (Worn tick) = u == tick
  offers (out.Cut u) (Cut tick) = u == tick
  offers _ _ = false

-- ---- the lines that stand

-- a line in front of others, where it stands
abbrev pub line_if : Bool → Offer → List Offer → List Offer
line_if stands line rest = if stands then line ∷ rest else rest

-- some tick from one to another is none of these: the first, or one right behind one of these
abbrev pub has_free : ℕ → ℕ → List ℕ → Bool
has_free from to taken = is_within from to taken from || list_any (λ v. is_within from to taken (v + 1)) taken

-- the last tick at which a read may be read: its bound, or the first cut
abbrev pub last_tick : ℕ → Option RowAt → ℕ
last_tick by None = by
last_tick by (Some cut) = if nat_lt cut.tick by then cut.tick else by

module _ {n : ℕ} (g : Grounds n) where
  -- the read has to wait, and may
  abbrev pub may_wait : Bool
  may_wait = not g.covered && not g.full

  -- it is read, between two ticks but where its bank stores; it is lost, at a cut before it has to be read
  abbrev pub read_line : Offer
  read_line = Read g.from (last_tick g.by g.cut) g.taken.items g.newest.bytes

  abbrev pub can_read : Bool
  can_read = may_wait && has_free g.from (last_tick g.by g.cut) g.taken.items

  abbrev pub lost_line : Option RowAt → List Offer → List Offer
  lost_line None rest = rest
  lost_line (Some cut) rest = line_if (may_wait && nat_lt cut.tick g.by) (Lost cut.tick) rest

  -- it is busy, or forwarded, as it comes
  abbrev pub can_refuse : Bool
  can_refuse = not g.covered && g.full

  abbrev pub can_forward : Bool
  can_forward = g.covered || g.at_head

  abbrev pub read_lines : ℕ → List Offer
  read_lines tick = line_if can_read read_line (lost_line g.cut (line_if can_refuse (Busy tick) (line_if can_forward (Forwarded tick g.newest.bytes) [])))

-- of a write: one that is merged, at the next accepted write of its line
abbrev pub merged_line : Option RowAt → List Offer → List Offer
merged_line None rest = rest
merged_line (Some next) rest = Merged next.tick ∷ rest

module _ {n : ℕ} (w : WriteGrounds n) (tick read : ℕ) where
  abbrev pub stored_line : Stores
  stored_line = record {
    behind = tick;
    bound = w.bound;
    below = tick_at w.worn_behind;
    distance = read;
    far = option_to_list w.last_store ++ w.stores.items;
    but = w.reads.items;
  }

  -- behind a worn row of its bank none but `worn`
  abbrev pub unless_worn : Option RowAt → List Offer → List Offer
  unless_worn None rest = Stored stored_line ∷ merged_line w.next (Queued tick ∷ line_if (w.full && w.alone) (Full tick) rest)
  unless_worn (Some worn) rest = rest

  abbrev pub write_lines : List Offer
  write_lines = unless_worn w.worn_before (Worn tick ∷ [])

-- of a row that comes at a tick, by what it finds
abbrev pub lines_found : {n : ℕ} → Rules → ℕ → Finds n → List Offer
lines_found rules tick (finds.Read g) = read_lines g tick
lines_found rules tick (finds.Write w) = write_lines w tick rules.read_ticks
lines_found rules tick finds.Cut = Cut tick ∷ []

-- none where a bank holds more than it may
abbrev pub lines_of : {n : ℕ} → Rules → ℕ → Finds n → Option (Crowd n) → List Offer
lines_of rules tick found None = lines_found rules tick found
lines_of rules tick found (Some crowd) = []
