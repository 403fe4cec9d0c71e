-- The rule on the queue is told by what is kept of a bank.
use Rattle.std.specs.Prelude.{◌≡◌, ℕ, ◌+◌, ◌<◌, ◌≤◌, IsTrue, if◌then◌else◌, List, [], ◌∷◌, ◌++◌, Bool, Option, Some, None, length, nat_lt}
use Rattle.masked_bytes.specs.Masked.{gives_all}
use Rattle.row_rules.specs.{Queueing.{pending, waiting, cover, read_fits, queue_fits, has_room}, Rows.accepted_of, declared.Asks.TheVariants.{Reads, Writes}, declared.Row.Row}
use Rattle.row_rules.specs.declared.Rules.{Rules}
use Rattle.check_judging.specs.{Counting.line_stores, Keys.reach, Near.NearRoom}
use Rattle.check_verdict.specs.{Fitting.{stores_between, at_head_kept, write_fits, room_kept, all_brief}, Kept.KeptBank, declared.members.Member.Member}

-- the tick of the first accepted write of a line
abbrev pub next_accepted : {n : ℕ} → ℕ → List (Row n) → Option ℕ
next_accepted line [] = None
next_accepted line (q ∷ rows) = if accepted_of line q then Some q.tick else next_accepted line rows

-- what is kept of a bank, whose outcomes have ticks below the reach
pub record Finds {n : ℕ} (t : ℕ) (rows : List (Row n)) (members : List Member) (waits : List ℕ) (lost : ℕ) (last_answer last_store : Option ℕ) : Type 0 where
  pub kept : KeptBank t rows members waits lost last_answer last_store
  pub brief : IsTrue (all_brief rows)

-- a bank's room
abbrev pub RoomKeptLaw : Type 0
RoomKeptLaw =
    (n t : ℕ) (rules : Rules) (rows : List (Row n)) (members : List Member) (waits : List ℕ) (lost : ℕ) (last_answer last_store : Option ℕ)
    → Finds t rows members waits lost last_answer last_store → NearRoom t rows
    → has_room rules t rows ≡ room_kept rules.writes rules.reads members waits lost

-- a write's answer
abbrev pub WriteFitsLaw : Type 0
WriteFitsLaw =
    (n line : ℕ) (bytes : List ℕ) (given : List Bool) (rules : Rules) (before : List (Row n)) (r : Row n) (after : List (Row n)) (members : List Member) (waits : List ℕ) (lost : ℕ) (last_answer last_store : Option ℕ)
    → Finds r.tick before members waits lost last_answer last_store
    → queue_fits rules (pending r.tick [] before) (waiting r.tick [] before) r (Writes line bytes given) before after
    ≡ write_fits rules.writes r.tick line members (next_accepted line after) r.outcome

-- these keys tell of a line's stores among some rows
abbrev pub KeysTell : {n : ℕ} → List ℕ → ℕ → ℕ → List (Row n) → Type 0
KeysTell keys line t rows = (e : ℕ) → t ≤ e → e < reach → stores_between keys line t e ≡ nat_lt 0 (line_stores line t e rows)

-- a read's answer
abbrev pub ReadFitsLaw : Type 0
ReadFitsLaw =
    (n line : ℕ) (rules : Rules) (before : List (Row n)) (r : Row n) (after : List (Row n)) (members : List Member) (waits keys : List ℕ) (lost : ℕ) (last_answer last_store : Option ℕ)
    → Finds r.tick before members waits lost last_answer last_store → KeysTell keys line r.tick (before ++ after)
    → queue_fits rules (pending r.tick [] before) (waiting r.tick [] before) r (Reads line) before after
    ≡ read_fits rules.reads (length waits + lost) (gives_all (cover r.tick line before after)) (at_head_kept keys line r.tick members) r.outcome
