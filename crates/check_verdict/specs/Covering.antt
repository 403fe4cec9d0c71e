-- What is kept of a line: its newest bytes, and which bytes the queue gives of it.
use Rattle.std.specs.Prelude.{◌≡◌, ℕ, ◌≤◌, Bool, true, false, if◌then◌else◌, List, [], ◌∷◌, ◌++◌, Option, Some, None, nat_le, reverse, All, min}
use Rattle.masked_bytes.specs.Masked.{joined, laid, none_given}
use Rattle.result_rows.specs.declared.Outcome.{Outcome}
use Rattle.result_rows.specs.declared.Outcome.TheVariants as out
use Rattle.row_rules.specs.{Queueing.cover, Rows.{accepted_of, write_of, newest, bytes_of, given_of}, declared.Row.Row}
use Rattle.check_judging.specs.Runs.{run, held, GivesSized}
use Rattle.check_verdict.specs.declared.lines.Run.{Run}

module _ (n : ℕ) where
  -- what these runs give, the newest first, down to the first that is stored by tick t
  abbrev pub held_by : ℕ → List (Run n) → List Bool
  held_by t [] = none_given n
  held_by t (r ∷ runs) = if nat_le r.end t then none_given n else joined r.given (held_by t runs)

-- what is kept of a line at a tick: its newest bytes, what its writes give since its last stored one, and the runs before, the oldest first
pub record KeptLine (n now line : ℕ) (rows : List (Row n)) (bytes : List ℕ) (unclosed : List Bool) (runs : List (Run n)) : Type 0 where
  pub newest_is : bytes ≡ newest rows line
  pub open_is : unclosed ≡ run line rows
  pub held_is : (t : ℕ) → now ≤ t → held_by n t (reverse runs) ≡ held t line rows

-- the least tick at which a write of a line is stored
abbrev pub sooner : {n : ℕ} → ℕ → Row n → Outcome n → Option ℕ → Option ℕ
sooner line q (out.Stored u place) None = if write_of line q then Some u else None
sooner line q (out.Stored u place) (Some v) = if write_of line q then Some (min u v) else Some v
sooner line q _ found = found

abbrev pub soonest : {n : ℕ} → ℕ → List (Row n) → Option ℕ
soonest line [] = None
soonest line (q ∷ rows) = sooner line q q.outcome (soonest line rows)

-- a tick, if there is one, is at most t
abbrev pub comes_by : ℕ → Option ℕ → Bool
comes_by t None = false
comes_by t (Some u) = nat_le u t

-- the bytes that the queue gives of a line, where the next of its later rows is stored at a tick
abbrev pub cover_kept : (n t : ℕ) → Option ℕ → List Bool → List (Run n) → List Bool
cover_kept n t next unclosed runs = if comes_by t next then none_given n else joined unclosed (held_by n t (reverse runs))

-- what the queue gives of a line
abbrev pub CoverKeptLaw : Type 0
CoverKeptLaw =
    (n now t line : ℕ) (before after : List (Row n)) (bytes : List ℕ) (unclosed : List Bool) (runs : List (Run n))
    → KeptLine n now line before bytes unclosed runs → now ≤ t → All (λ r. GivesSized r) before
    → cover t line before after ≡ cover_kept n t (soonest line after) unclosed runs

-- what is kept stays so as time passes, and behind a row that isn't an accepted write of the line
abbrev pub LineStaysLaw : Type 0
LineStaysLaw =
    (n now later line : ℕ) (r : Row n) (rows : List (Row n)) (bytes : List ℕ) (unclosed : List Bool) (runs : List (Run n))
    → KeptLine n now line rows bytes unclosed runs → now ≤ later → accepted_of line r ≡ false → KeptLine n later line (r ∷ rows) bytes unclosed runs

-- the runs behind an accepted write that is stored: those before are over once the newest of them is
abbrev pub closed : {n : ℕ} → ℕ → List (Run n) → List (Run n)
closed now [] = []
closed now (r ∷ runs) = if nat_le r.end now then [] else r ∷ runs

-- what its writes give since the last stored one, behind one that gives these bytes and is stored at a tick or isn't
abbrev pub unclosed_behind : ℕ → Option ℕ → List Bool → List Bool → List Bool
unclosed_behind n (Some end) given unclosed = none_given n
unclosed_behind n None given unclosed = joined given unclosed

-- the runs behind it, where the last of them would give these bytes
abbrev pub runs_behind : {n : ℕ} → ℕ → Option ℕ → List Bool → List (Run n) → List (Run n)
runs_behind now (Some end) all runs = reverse (closed now (reverse runs)) ++ (record { end = end; given = all }) ∷ []
runs_behind now None all runs = runs

-- behind an accepted write of the line that is stored, and behind one that isn't
abbrev pub LineJoinsLaw : Type 0
LineJoinsLaw =
    (n now line : ℕ) (r : Row n) (rows : List (Row n)) (bytes : List ℕ) (unclosed : List Bool) (runs : List (Run n))
    → KeptLine n now line rows bytes unclosed runs → accepted_of line r ≡ true
    → ((u place : ℕ) (one : Run n) → r.outcome ≡ out.Stored u place → one.end ≡ u → one.given ≡ joined (given_of r.asks) unclosed
    → KeptLine n now line (r ∷ rows) (laid (bytes_of r.asks) (given_of r.asks) bytes) (none_given n) (reverse (closed now (reverse runs)) ++ one ∷ []))
    × (((u place : ℕ) → r.outcome ≡ out.Stored u place → ⊥)
    → KeptLine n now line (r ∷ rows) (laid (bytes_of r.asks) (given_of r.asks) bytes) (joined (given_of r.asks) unclosed) runs)
