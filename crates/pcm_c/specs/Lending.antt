-- What becomes of a handle that lends its module.
use Rattle.std.specs.{Borrow.{MutBor, Fml}, Prelude.Some}
use denote.Follow.{follows}
use Rattle.pcm_c.specs.{contracts.handle.Handle.the_row as handle_row, contracts.held.Held.the_row as held_row, declared.handle.Handle.Handle, declared.held.Held.Held}

-- a handle that holds this one instead
abbrev pub with_value : Handle → Held → Handle
with_value h w = record h { value = Some w }

-- once the borrow r ends, the handle behind h holds the last module written through r
abbrev pub held_follows : MutBor Handle → MutBor Held → Fml
held_follows h r = follows handle_row held_row h.ghost_name r.ghost_name (with_value h.now)
