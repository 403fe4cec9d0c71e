-- Each row has an outcome of its own operation, and a read that is answered has the newest bytes of its line.
use Rattle.std.specs.Prelude.{ℕ, List, [], ◌∷◌, Bool, true, false, ◌==◌, ◌&&◌}
use Rattle.result_rows.specs.declared.Outcome.{Outcome}
use Rattle.result_rows.specs.declared.Outcome.TheVariants as out
use Rattle.row_rules.specs.{Rows.{RowTest, newest}, declared.Asks.Asks, declared.Asks.TheVariants.{Reads, Writes, Cuts}, declared.Row.Row}

-- two lists of bytes are the same
abbrev pub same_bytes : List ℕ → List ℕ → Bool
same_bytes [] [] = true
same_bytes [] (y ∷ ys) = false
same_bytes (x ∷ xs) [] = false
same_bytes (x ∷ xs) (y ∷ ys) = x == y && same_bytes xs ys

-- an outcome that a row with this tick may have, the newest bytes of its line given.
-- What is decided at the row's arrival, or never, carries the row's own tick
abbrev pub may_have : {n : ℕ} → ℕ → Asks n → List ℕ → Outcome n → Bool
may_have tick (Writes line bytes given) newest (out.Stored at place) = true
may_have tick (Writes line bytes given) newest (out.Merged at) = true
may_have tick (Writes line bytes given) newest (out.Queued at) = at == tick
may_have tick (Writes line bytes given) newest (out.Full at) = at == tick
may_have tick (Writes line bytes given) newest (out.Worn at) = at == tick
may_have tick (Writes line bytes given) newest _ = false
may_have tick (Reads line) newest (out.Read at place bytes) = same_bytes bytes newest
may_have tick (Reads line) newest (out.Forwarded at bytes) = at == tick && same_bytes bytes newest
may_have tick (Reads line) newest (out.Busy at) = at == tick
may_have tick (Reads line) newest (out.Lost at) = true
may_have tick (Reads line) newest _ = false
may_have tick Cuts newest (out.Cut at) = at == tick
may_have tick Cuts newest _ = false

-- what a read is owed: the newest bytes of its line
abbrev pub owed : {n : ℕ} → List (Row n) → Asks n → List ℕ
owed before (Reads line) = newest before line
owed before (Writes line bytes given) = []
owed before Cuts = []

-- a row has an outcome of its own operation, and the newest bytes where it is a read that is answered
abbrev pub is_served : {n : ℕ} → RowTest n
is_served before r after = may_have r.tick r.asks (owed before r.asks) r.outcome
