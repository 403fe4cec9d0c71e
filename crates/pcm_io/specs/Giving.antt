-- What writes give to a sink.
use Rattle.std.specs.{Io.KnownBytes.Appends, Prelude.{ℕ, ◌≤◌, List, length, take, Option}}

-- some first bytes of the piece were appended, maybe none and maybe all, where what was written is told
abbrev pub AppendsPrefix : Option (List ℕ) → Option (List ℕ) → List ℕ → Type 0
AppendsPrefix before now piece = (n : ℕ) × (n ≤ length piece) × Appends before now (take n piece)
