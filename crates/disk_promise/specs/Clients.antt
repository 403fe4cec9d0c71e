-- The lines of a module, as a disk's server sees them.
use Rattle.std.specs.Prelude.{ℕ, List}
use Rattle.atomic_sectors.specs.Lines.{Write}
use Rattle.disk_lines.specs.{Asking.stops_at, Lines.{OnModule, writes_of}}

module _ {n m e : ℕ} {S : Type 0} where
  -- the writes that were made
  abbrev pub made_on : OnModule n m e S → List Write
  made_on lines = writes_of lines.puts

  -- how many power cuts came and writes were refused, as long as the clock and the rows last
  abbrev pub stops_on : OnModule n m e S → ℕ
  stops_on lines = stops_at lines.module_.tick lines.heard
