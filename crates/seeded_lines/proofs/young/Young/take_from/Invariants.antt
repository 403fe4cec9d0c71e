use Rattle.std.proofs.Common.{◌≡◌, ℕ, ◌+◌, ◌-◌, ◌*◌, ◌<◌, ◌≤◌, length, slice_index}
use Rattle.seeded_lines.specs.{Counts.count, Young.changes_in}
use Rattle.seeded_lines.proofs.young.Young.take_from.Given as goal

-- the groups so far are less, and the others are as they were
abbrev pub invariant-loop-group : goal.invariant-loop-group
invariant-loop-group g l = record {
  done : (n : ℕ) → n < 8 * l.group → count l.left n ≡ count l.initial.left n - changes_in l.self n;
  rest : (n : ℕ) → 8 * l.group ≤ n → count l.left n ≡ count l.initial.left n;
}

-- and so are the cells so far of the group at hand
abbrev pub invariant-loop-index : goal.invariant-loop-index
invariant-loop-index g l = record {
  size : length l.row ≡ 8;
  done : (j : ℕ) → j < l.index → slice_index l.row j ≡ count l.left (8 * l.group + j) - changes_in l.self (8 * l.group + j);
}
