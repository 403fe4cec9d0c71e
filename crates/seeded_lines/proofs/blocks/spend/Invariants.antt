use Rattle.std.proofs.Common.{◌≡◌, ℕ, ◌-◌, ◌^◌, ◌<◌, ◌&&◌, true, not, cond, slice_index}
use Rattle.std.specs.Prelude.{nat_le}
use Rattle.seeded_lines.specs.Planes.{bit_in}
use Rattle.seeded_lines.proofs.blocks.spend.Given as goal

-- of the masked counts those that no longer stand in `rest` are done, and the others are as they were
abbrev pub invariant-loop-rest : goal.invariant-loop-rest
invariant-loop-rest l = record {
  fits : l.rest < 2 ^ 64;
  masked : (i : ℕ) → i < 64 → bit_in l.rest i ≡ true → bit_in l.mask i ≡ true;
  last : (i : ℕ) → i < 64 → bit_in l.last i ≡ (not (bit_in l.rest i) && (bit_in l.mask i && nat_le (slice_index l.initial.left i) 1));
  done : (i : ℕ) → i < 64 → slice_index l.left i ≡ cond (not (bit_in l.rest i) && bit_in l.mask i) (slice_index l.initial.left i - 1) (slice_index l.initial.left i);
}

abbrev pub decreases-loop-rest : goal.decreases-loop-rest
decreases-loop-rest l = l.rest
