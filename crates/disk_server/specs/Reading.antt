-- Bytes that are read whole, or why they aren't.
use Rattle.std.specs.{Io.KnownBytes.IsAtEnd, Prelude.{◌≡◌, ℕ, ◌<◌, List, [], length, Option}}
use Rattle.pcm_io.specs.Faults.{Rose}
use Rattle.disk_server.specs.declared.phase.Ended.{Ended}
use Rattle.disk_server.specs.declared.phase.Ended.TheVariants as by

-- only these bytes came, of more: there were no others, or reading failed
abbrev pub StopsShort : Ended → List ℕ → Option (List ℕ) → ℕ → ℕ → Type 0
StopsShort by.Closed bytes left before now = (bytes ≡ []) × IsAtEnd left
StopsShort by.Broken bytes left before now = (0 < length bytes) × IsAtEnd left
StopsShort by.Unread bytes left before now = Rose before now
StopsShort _ bytes left before now = ⊥

-- the same, behind bytes of the same message
abbrev pub StopsAmid : Ended → Option (List ℕ) → ℕ → ℕ → Type 0
StopsAmid by.Broken left before now = IsAtEnd left
StopsAmid by.Unread left before now = Rose before now
StopsAmid _ left before now = ⊥
