-- Answers to a disk's requests, and how many were stopped.
use Rattle.std.specs.Prelude.{◌≡◌, ℕ, ◌+◌, List, [], ◌∷◌, length}
use Rattle.atomic_sectors.specs.{Lines.{Write, stand}, Stops.stops_by, declared.layout.Layout.Layout}
use Rattle.disk_rules.specs.{Disk.{Written, IsDisk, IsRead, IsMade, refusal, refused}, Standing.{HoldsDisk, disk_size, sector_size}, declared.DiskAnswer.DiskAnswer}
use Rattle.disk_rules.specs.{declared.DiskAnswer.TheVariants.Stopped, declared.DiskRequest.DiskRequest}
use Rattle.disk_bytes.specs.Parts.{part}

-- 1 of an answer that was stopped, other than for want of memory, and else 0
abbrev pub stops_of : DiskAnswer → ℕ
stops_of (Stopped why) = stops_by why
stops_of _ = 0

-- how many of these were
abbrev pub stops_in : List DiskAnswer → ℕ
stops_in [] = 0
stops_in (a ∷ answers) = stops_of a + stops_in answers

module _ (n : ℕ) (layout : Layout) where
  -- a read is refused where it must be, and where it is answered it has these lines' bytes
  pub record Reads (lines : ℕ → List ℕ) (at size : ℕ) (answer : DiskAnswer) : Type 0 where
    pub refused : refused answer ≡ refusal (disk_size n layout) at size
    pub right : (writes : List Written) → HoldsDisk n layout lines writes → IsRead writes at size answer

  -- a write is refused where it must be, and what the lines hold behind it is as its answer says
  pub record Writes (lines : ℕ → List ℕ) (at : ℕ) (bytes : List ℕ) (before : List Written) (answer : DiskAnswer) : Type 0 where
    pub refused : refused answer ≡ refusal (disk_size n layout) at (length bytes)
    pub done : ℕ
    pub made : IsMade (sector_size n layout) answer (part at bytes done)
    pub holds : HoldsDisk n layout lines (part at bytes done ∷ before)

  -- the answers so far are those of a disk with this layout on which these writes were made, and the lines hold it
  pub record IsDiskOn (asked : List (DiskRequest × DiskAnswer)) (made : List Write) (writes : List Written) : Type 0 where
    pub answers : IsDisk (disk_size n layout) (sector_size n layout) asked writes
    pub lines : HoldsDisk n layout (stand n made) writes

  -- some writes were made by which it is so
  abbrev pub IsServed : List (DiskRequest × DiskAnswer) → List Write → Type 0
  IsServed asked made = (writes : List Written) × IsDiskOn asked made writes
