-- What the words of a stream ask of the arrays that it is served on.
use Rattle.std.specs.Prelude.{Bool, true, false, Result, Ok, Err}
use Rattle.command_line.specs.declared.job.Refusal.{Refusal}
use Rattle.stream_words.specs.{Options.tells_energy, declared.job.StreamJob.StreamJob, declared.job.StreamPrint.StreamPrint}
use Rattle.stream_words.specs.declared.job.StreamPrint.TheVariants.{Rows, Summary, Wear, Lines, Map, Energy, Image, Snapshots}

-- whether snapshots are taken
abbrev pub is_of_snapshots : StreamPrint → Bool
is_of_snapshots (Rows told) = false
is_of_snapshots Summary = false
is_of_snapshots (Wear skipped) = false
is_of_snapshots (Lines skipped) = false
is_of_snapshots Map = false
is_of_snapshots Energy = false
is_of_snapshots Image = false
is_of_snapshots (Snapshots every) = true

-- whether an array is to count energy for words that were read so: where what is written may tell of it, or nothing is known of the words
abbrev pub counts_energy : Result StreamJob Refusal → Bool
counts_energy (Ok job) = tells_energy job.print job.input
counts_energy (Err refusal) = true

-- whether it is to keep totals for them: where snapshots are taken
abbrev pub keeps_totals : Result StreamJob Refusal → Bool
keeps_totals (Ok job) = is_of_snapshots job.print
keeps_totals (Err refusal) = false
