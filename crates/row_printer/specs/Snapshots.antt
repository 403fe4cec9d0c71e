-- The lines of snapshots of a stream, and behind which rows one stands.
use Rattle.std.specs.{List.join_with_byte, Prelude.{◌≡◌, ℕ, ◌%◌, ◌≤◌, ◌==◌, Bool, true, false, List, [], ◌∷◌, ◌++◌, codes, decimal}}
use Rattle.run_text.specs.declared.counts.OutcomeCounts.{OutcomeCounts}
use Rattle.energy_report.specs.EnergyText.{energy_text}
use Rattle.row_printer.specs.{declared.snapshot.Snapshot.Snapshot, declared.told.Shown.Shown, declared.told.Shown.TheVariants.{Nothing, Rows, Snapshots}}

-- the first line of snapshots
abbrev pub snapshots_header : List ℕ
snapshots_header = codes "rows,tick,stored,merged,queued,full,worn,read,forwarded,busy,lost,cut,retired,pulses,most,mean,pointers,senses,set,reset\n"

-- the counts in the order of the summary, a comma behind each
abbrev pub counts_text : OutcomeCounts → List ℕ
counts_text counts =
    join_with_byte 44
    (decimal counts.stored ∷ decimal counts.merged ∷ decimal counts.queued ∷ decimal counts.full ∷ decimal counts.worn
    ∷ decimal counts.read ∷ decimal counts.forwarded ∷ decimal counts.busy ∷ decimal counts.lost ∷ decimal counts.cut ∷ [])
    ++ codes ","

-- the line of a snapshot: its numbers in decimal, with commas between, those of energy empty where they aren't told, and LF at the end
abbrev pub snapshot_line : Snapshot → List ℕ
snapshot_line s =
    decimal s.rows ++ codes "," ++ decimal s.tick ++ codes "," ++ counts_text s.counts
    ++ join_with_byte 44
    (decimal s.retired ∷ decimal s.wear.pulses ∷ decimal s.wear.most ∷ decimal s.wear.mean ∷ decimal s.wear.pointers ∷ energy_text s.wear.energy ∷ [])
    ++ codes "\n"

-- the lines, in the order in which the snapshots were taken
abbrev pub snapshots_text : List Snapshot → List ℕ
snapshots_text [] = []
snapshots_text (one ∷ rest) = snapshot_line one ++ snapshots_text rest

-- whether snapshots are shown
abbrev pub takes_snapshots : Shown → Bool
takes_snapshots Nothing = false
takes_snapshots (Rows shape) = false
takes_snapshots (Snapshots every) = true

-- whether a snapshot stands behind the row of this number: where snapshots are shown, behind each that is a multiple
abbrev pub is_due : Shown → ℕ → Bool
is_due Nothing row = false
is_due (Rows shape) row = false
is_due (Snapshots every) row = row % every == 0

-- snapshots are shown of at least one row each
abbrev pub IsShown : Shown → Type 0
IsShown Nothing = Unit {0}
IsShown (Rows shape) = Unit {0}
IsShown (Snapshots every) = 1 ≤ every

-- where one is due, a snapshot of which this holds comes behind those before, and else none
abbrev pub AddsDue : Bool → (Snapshot → Type 0) → List Snapshot → List Snapshot → Type 0
AddsDue false Holds before now = now ≡ before
AddsDue true Holds before now = (one : Snapshot) × Holds one × (now ≡ before ++ one ∷ [])
