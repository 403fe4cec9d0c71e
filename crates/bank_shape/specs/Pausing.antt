-- How fast a bank works, and when its line writes give way to reads.
use Rattle.std.specs.Prelude.{ℕ, ◌≤◌, Bool, true, false}
use Rattle.bank_shape.specs.{declared.pace.Pace.Pace, declared.pace.Policy.Policy, declared.pace.Policy.TheVariants.{Pause, Plain, Cancel}}

-- a sense and an iteration take 1 to 255 ticks each
pub record IsPace (pace : Pace) : Type 0 where
  pub some_read : 1 ≤ pace.read
  pub few_read : pace.read ≤ 255
  pub some_iter : 1 ≤ pace.iter
  pub few_iter : pace.iter ≤ 255

-- whether a line write gives way to a waiting read between two iterations
abbrev pub gives_way : Policy → Bool
gives_way Pause = true
gives_way Plain = false
gives_way Cancel = true

-- whether a read that arrives drops what runs of a line write
abbrev pub is_cancelling : Policy → Bool
is_cancelling Pause = false
is_cancelling Plain = false
is_cancelling Cancel = true

-- how often one line write may be cancelled
abbrev pub most_cancels : ℕ
most_cancels = 4
