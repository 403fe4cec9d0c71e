use Rattle.std.proofs.Common.{◌≡◌, ◌<◌, ℕ, false}
use Rattle.module_shape.specs.Limits.{IsShape}
use Rattle.pcm_module.specs.Telling.{rows_at}
use Rattle.pcm_library.proofs.waiting.waits_at.Given as goal

-- the row stands in no bank before this one
abbrev pub invariant-loop-bank : goal.invariant-loop-bank
invariant-loop-bank g l = record {
  off : (bank : ℕ) → bank < l.bank → rows_at l.pcm bank l.until.row ≡ false;
  shape : IsShape l.pcm.shape;
  later : l.pcm.tick < l.until.limit;
}
