use Rattle.std.proofs.Common.{◌≡◌, ℕ, ◌+◌, ◌%◌, ◌^◌, ◌&&◌, false, leb, ltb}
use Rattle.cell_rows.specs.Rows.{cell}
use Rattle.ecp_line.specs.Layout.{number}
use Rattle.ecp_line.proofs.ecp.Ecp.pointer.Given as goal

-- the pointer cells so far give the low digits of the bit, and are in the mask
abbrev pub invariant-loop-digit : goal.invariant-loop-digit
invariant-loop-digit g l = record {
  digits : number (cell l.want) l.first l.digit ≡ l.bit % 2 ^ l.digit;
  masked : (n : ℕ) → cell l.mask n ≡ (leb l.first n && ltb n (l.first + l.digit));
  others : (n : ℕ) → cell l.mask n ≡ false → cell l.want n ≡ cell l.cells n;
}
