-- How long a write of a line takes.
use Rattle.std.specs.Prelude.{ℕ, ◌+◌, ◌*◌}

-- the greatest number of steps of a write of a line with e entries: its first two phases and three more for each entry have at most
-- eight each
abbrev pub most_steps : ℕ → ℕ
most_steps e = 8 * (3 * e + 2)
