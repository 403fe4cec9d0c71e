-- What a handle owns.
use Rattle.std.specs.{Box.Ownership.box_owns, Prelude.{Option, Some, None}, contracts.impls.GlobalAllocator.TheImpl.ghosts, declared.alloc.Global.Global}
use base.Fml.{Fml, ftrue}
use denote.RawPtr.{Ptr}
use Rattle.pcm_c.specs.{contracts.held.Held.the_row as held_row, declared.held.Held.Held}

-- where it holds a module, that in its box, and the right to free it
abbrev pub owned : Global → Ptr → Option Held → Fml
owned heap at (Some held) = box_owns (ghosts.dealloc_token heap) held_row at held
owned heap at None = ftrue
