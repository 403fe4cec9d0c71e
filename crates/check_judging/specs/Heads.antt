-- Tests of the queue by the least tick at which one of its writes is stored.
use Rattle.std.specs.{List.list_all, Prelude.{◌≡◌, ℕ, ◌≤◌, Bool, true, IsTrue, if◌then◌else◌, List, [], ◌∷◌, Option, Some, None, nat_le, nat_lt, min}}
use Rattle.result_rows.specs.declared.Outcome.{Outcome}
use Rattle.result_rows.specs.declared.Outcome.TheVariants as out
use Rattle.row_rules.specs.{Queueing.{none_before, is_first}, Rows.write_of, declared.Row.Row}

module _ {n : ℕ} (never : ℕ) where
  -- the tick at which a write is stored, or never
  abbrev pub end_of : Outcome n → ℕ
  end_of (out.Stored u place) = u
  end_of _ = never

  -- the tick at which a write leaves the queue, or never
  abbrev pub leave_of : Outcome n → ℕ
  leave_of (out.Stored u place) = u
  leave_of (out.Merged u) = u
  leave_of _ = never

  -- the least tick at which one of these is stored, or never
  abbrev pub least_end : List (Row n) → ℕ
  least_end [] = never
  least_end (q ∷ rows) = min (end_of q.outcome) (least_end rows)

  -- the same of those that are no writes of the line
  abbrev pub least_other : ℕ → List (Row n) → ℕ
  least_other line [] = never
  least_other line (q ∷ rows) = if write_of line q then least_other line rows else min (end_of q.outcome) (least_other line rows)

-- a tick, or never
abbrev pub next_of : ℕ → Option ℕ → ℕ
next_of never (Some u) = u
next_of never None = never

-- a write that is stored is stored below this tick
abbrev pub stored_below : {n : ℕ} → ℕ → Outcome n → Bool
stored_below never (out.Stored u place) = nat_lt u never
stored_below never _ = true

abbrev pub all_stored_below : {n : ℕ} → ℕ → List (Row n) → Bool
all_stored_below never rows = list_all (λ q. stored_below never q.outcome) rows

-- no write of these is stored before one leaves the queue
abbrev pub NoneBeforeLaw : Type 0
NoneBeforeLaw =
    (n never : ℕ) (o : Outcome n) (rows : List (Row n)) → leave_of never o ≤ never → IsTrue (all_stored_below never rows)
    → none_before o rows ≡ nat_le (leave_of never o) (least_end never rows)

-- no write of another line is stored before the line's next store
abbrev pub FirstLaw : Type 0
FirstLaw =
    (n never line : ℕ) (next : Option ℕ) (rows : List (Row n)) → next_of never next ≤ never → IsTrue (all_stored_below never rows)
    → is_first line next rows ≡ nat_le (next_of never next) (least_other never line rows)
