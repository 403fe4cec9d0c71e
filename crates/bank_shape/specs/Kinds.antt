-- Of which kind a work is.
use Rattle.std.specs.Prelude.{Bool, true, false}
use Rattle.bank_shape.specs.{declared.Work.Work, declared.Work.TheVariants.{Nothing, Store, Copy}}

-- whether a work is the store of a write
abbrev pub is_store : Work → Bool
is_store Nothing = false
is_store (Store line slot) = true
is_store (Copy region step) = false

-- whether a work is a gap move
abbrev pub is_copy : Work → Bool
is_copy Nothing = false
is_copy (Store line slot) = false
is_copy (Copy region step) = true
