use Rattle.std.proofs.Common.{◌≡◌, ℕ, ◌+◌, ◌-◌, ◌<◌, ◌≤◌, length, get_or}
use Rattle.disk_rules.specs.Pieces.{byte_in}
use Rattle.disk_bytes.proofs.copying.fetch.Given as goal

abbrev pub invariant-loop-done : goal.invariant-loop-done
invariant-loop-done g l = record {
  fetched : (i : ℕ) → i < l.done → get_or l.to (l.from + i) 0 ≡ byte_in g.row.B l.lines (l.begin + i);
  before : (i : ℕ) → i < l.from → get_or l.to i 0 ≡ get_or l.fn.to i 0;
  within : l.done ≤ l.count;
  length : length l.to ≡ length l.fn.to;
}

abbrev pub decreases-loop-done : goal.decreases-loop-done
decreases-loop-done g l = l.count - l.done
