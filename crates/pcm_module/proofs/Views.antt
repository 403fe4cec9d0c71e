-- A module, as contracts see it.
use Rattle.std.specs.Prelude.{ℕ}
use Rattle.pcm_module.specs.{State.ModuleState, declared.side_by_side.Module.TheInside.Inside}

-- the state that contracts name, of the fields that the code has
abbrev pub state_of : {n m e : ℕ} → Inside n m e → ModuleState n m e
state_of s = record { shape = s.shape; seed = s.seed; banks = s.banks.items; tick = s.tick; rows_below = s.rows_below; finished = s.finished }
