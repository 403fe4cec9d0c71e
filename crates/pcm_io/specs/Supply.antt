-- A source over bytes in memory, of which chosen calls fail.
use Rattle.std.specs.Prelude.{ℕ, List, if◌then◌else◌}
use Rattle.pcm_io.specs.{Schedule.{Schedule, next_fails, after_call, after_fault}, Stock.{Stock, after_giving, filled}}

-- the bytes, and the calls
pub record Supply : Type 0 where
  pub stock : Stock
  pub calls : Schedule

-- the supply after a call with a buffer of this length
abbrev pub after_read : Supply → ℕ → Supply
after_read s len =
    if next_fails s.calls
    then record s { calls = after_fault s.calls }
    else record { stock = after_giving s.stock len; calls = after_call s.calls }

-- the buffer after a call with it
abbrev pub buffer_after : Supply → List ℕ → List ℕ
buffer_after s buffer = if next_fails s.calls then buffer else filled s.stock buffer
