-- The calls of a source or a sink in memory, of which chosen ones fail.
use Rattle.std.specs.{List.list_any, Prelude.{ℕ, ◌==◌, List, Bool}}
use Rattle.pcm_io.specs.Faults.{raised_by}

-- how many calls were made, the numbers of those that fail, counted from 1, and the faults so far
pub record Schedule : Type 0 where
  pub made : ℕ
  pub failing : List ℕ
  pub faults : ℕ

-- no call was made yet, and these will fail
abbrev pub planned : List ℕ → Schedule
planned failing = record { made = 0; failing = failing; faults = 0 }

-- the call after those made is among those that fail
abbrev pub next_fails : Schedule → Bool
next_fails s = list_any (λ number. number == raised_by s.made 1) s.failing

-- one more call was made
abbrev pub after_call : Schedule → Schedule
after_call s = record s { made = raised_by s.made 1 }

-- one more call was made, and it was a fault
abbrev pub after_fault : Schedule → Schedule
after_fault s = record s { made = raised_by s.made 1; faults = raised_by s.faults 1 }
