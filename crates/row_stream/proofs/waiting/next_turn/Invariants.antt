use Rattle.std.proofs.Common.{◌≡◌, ◌⊎◌, ℕ, ◌<◌, ◌≤◌, false}
use Rattle.module_shape.specs.Limits.{IsShape}
use Rattle.bank_timing.specs.Extending.{next_end}
use Rattle.pcm_module.specs.State.{bank_at}
use Rattle.row_stream.proofs.waiting.next_turn.Given as goal

-- of the banks before this one none has an action that ends before the tick, and it is the limit, or one of these ends there
abbrev pub invariant-loop-bank : goal.invariant-loop-bank
invariant-loop-bank g l = record {
  most : l.first ≤ l.limit;
  least : (bank : ℕ) → bank < l.bank → l.first ≤ next_end l.limit (bank_at l.pcm bank);
  some : (l.first ≡ l.limit) ⊎ ((bank : ℕ) × (bank < l.pcm.shape.banks) × (l.first ≡ next_end l.limit (bank_at l.pcm bank)));
  shape : IsShape l.pcm.shape;
  silent : l.out.heard ≡ false;
  later : l.pcm.tick < l.limit;
}
