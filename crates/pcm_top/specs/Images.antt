-- Which lines are sensed for the text of a run.
use Rattle.std.specs.Prelude.{ℕ}
use Rattle.command_line.specs.{declared.job.Print.Print, declared.job.Print.TheVariants.{Results, Summary, Wear, Image}}

-- how many lines of an array that has so many are sensed for the text of a run: each for an image, and none for
-- any other
abbrev pub senses_for : Print → ℕ → ℕ
senses_for Results lines = 0
senses_for Summary lines = 0
senses_for Wear lines = 0
senses_for Image lines = lines
