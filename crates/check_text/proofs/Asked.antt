-- What a row asks for; for the crates above.
use Rattle.std.proofs.Common.{◌≡◌, ℕ, refl}
use Rattle.trace_reader.specs.{declared.event.EventOp.EventOp, declared.event.EventOp.TheVariants.{Read, Write, Mask, Cut}}
use Rattle.trace_rows.specs.Rows.{asks_of}
use Rattle.run_text.specs.ResultText.{asked}
use Rattle.row_rules.specs.Rows.{op_asked}

-- what a row asks for, as its result shows it
pub own-op : {n : ℕ} (op : EventOp n) → op_asked (asks_of op) ≡ asked op
own-op (Read line) = refl
own-op (Write line bytes) = refl
own-op (Mask line bytes given) = refl
own-op Cut = refl
