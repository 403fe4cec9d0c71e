use Rattle.std.proofs.Common.{◌≡◌, ℕ, ◌+◌, ◌-◌, ◌≤◌, ◌&&◌, ltb, leb, if◌then◌else◌, length, get_or}
use Rattle.disk_rules.specs.Pieces.{byte_in}
use Rattle.disk_bytes.proofs.copying.lay.Given as goal

abbrev pub invariant-loop-done : goal.invariant-loop-done
invariant-loop-done g l = record {
  laid : (y : ℕ) → byte_in g.row.B l.lines y ≡ (if leb l.begin y && ltb y (l.begin + l.done) then get_or l.bytes (l.from + (y - l.begin)) 0 else byte_in g.row.B l.fn.lines y);
  within : l.done ≤ l.count;
  length : length l.lines ≡ length l.fn.lines;
}

abbrev pub decreases-loop-done : goal.decreases-loop-done
decreases-loop-done g l = l.count - l.done
