-- What an array with a log tells.
use Rattle.std.specs.Prelude.{ℕ, List, if◌then◌else◌, Option, Some, None}
use Rattle.cell_rows.specs.{Device.ArrayState, declared.array.Sense.Sense}
use Rattle.pcm_cells.specs.declared.logged.LoggedArray.{LoggedArray}

-- the log, while it is told
abbrev pub told_log : {A : Type 0} {B M : ℕ} → LoggedArray A B M → Option (List (Sense B M))
told_log array = if array.told then Some array.log.items else None

-- what a controller may know of it: all of the inner array but the log, which is its own
abbrev pub logged_state : {A : Type 0} {B M : ℕ} → ArrayState B M → LoggedArray A B M → ArrayState B M
logged_state inner array = record inner { log = told_log array }
