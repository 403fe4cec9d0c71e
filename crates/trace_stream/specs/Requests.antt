-- How a reader asks its source: only where what came so far is wanting, and for a piece at a time.
use Rattle.std.specs.Prelude.{◌≡◌, ◌≤◌, ℕ, zero, suc, List, [], ◌++◌, length, Option, false}
use Rattle.csv.specs.declared.parser.State.{State}
use Rattle.pcm_io.specs.Taking.{Takes}
use Rattle.trace_stream.specs.{Arrived.Arrived, Kept.decides}

-- one request gives at most so many bytes
abbrev pub most_asked : ℕ
most_asked = 8192

-- of a source, by the bytes that it has left and those that were taken
module _ {S : Type 0} (left : S → Option (List ℕ)) (taken : S → ℕ) where
  -- it stood so before a request, which gave these bytes, and stands so behind it
  pub record Gives (old new : S) (bytes : List ℕ) : Type 0 where
    pub takes : Takes (left old) (left new) (taken old) (taken new) bytes
    pub few : length bytes ≤ most_asked

  -- as it first stood it was asked so many times, gave these bytes in all, and stands so: each time the bytes before were wanting
  abbrev pub AsksWhere : (IsWanting : List ℕ → Type 0) → (first : S) → (times : ℕ) → (bytes : List ℕ) → (now : S) → Type 0
  AsksWhere IsWanting first zero bytes now = (bytes ≡ []) × (now ≡ first)
  AsksWhere IsWanting first (suc times) bytes now =
      (earlier : S) × (before : List ℕ) × AsksWhere IsWanting first times before earlier
      × IsWanting before × (given : List ℕ) × Gives earlier now given × (bytes ≡ before ++ given)

-- the source wasn't seen to end, and what had come before and these bytes decide of no row
abbrev pub LacksRow : State → Arrived → List ℕ → Type 0
LacksRow s stood bytes = (stood.ended ≡ false) × (decides s 0 (stood.bytes ++ bytes) ≡ false)
