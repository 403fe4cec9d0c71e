-- A sink that keeps what is written in reserved memory.
use Rattle.std.specs.Prelude.{ℕ, ◌||◌, Bool, List, length, nat_lt, if◌then◌else◌}
use Rattle.pcm_io.specs.{Reserved.{Reserved, room_in, appended}, Schedule.{Schedule, next_fails, after_call, after_fault}}

-- what was written, its room, and the calls
pub record Receipt : Type 0 where
  pub text : Reserved
  pub calls : Schedule

-- the next call fails with a piece of this length: by its number, or for want of room
abbrev pub refuses : Receipt → ℕ → Bool
refuses r len = next_fails r.calls || nat_lt (room_in r.text) len

-- the receipt after a call with this piece
abbrev pub after_write : Receipt → List ℕ → Receipt
after_write r piece =
    if refuses r (length piece)
    then record r { calls = after_fault r.calls }
    else record { text = appended r.text piece; calls = after_call r.calls }
