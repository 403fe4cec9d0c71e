-- What the arrays of a stream count, by its words.
use Rattle.std.specs.Prelude.{◌≡◌, ◌⊎◌, ℕ, Bool, true, if◌then◌else◌, [], Some, None, Result}
use Rattle.command_line.specs.declared.job.Refusal.{Refusal}
use Rattle.pcm_cells.specs.Seeded.{SeededArray}
use Rattle.stream_words.specs.{Arrays.counts_energy, declared.job.StreamJob.StreamJob}

-- an array without lines, which counts energy or not
abbrev pub blank : {n m : ℕ} → Bool → SeededArray n m
blank counts = record { lines = []; tears = 0; wear = None; energies = if counts then Some [] else None }

-- it counts energy where words that were read so may tell of it, and else none; or it counts it anyway
abbrev pub IsArrayFor : {n m : ℕ} → Result StreamJob Refusal → SeededArray n m → Type 0
IsArrayFor asked array = (array ≡ blank (counts_energy asked)) ⊎ (array ≡ blank true)
