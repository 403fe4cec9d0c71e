use Rattle.std.proofs.Common.{◌≡◌, ◌⊎◌, ℕ, ◌-◌, ◌<◌, ◌≤◌, List, Option}
use Rattle.std.specs.Prelude.{IsSomeAnd, slice_get}
use Rattle.module_shape.specs.declared.raw.RawShape.{RawShape}
use Rattle.bank_timing.specs.Extending.{outcome_in}
use Rattle.pcm_module.specs.Settling.{IsAtTick}
use Rattle.row_printer.specs.Printing.{IsPrinting, table_told}
use Rattle.trace_stream.specs.declared.asked.Asked.{Asked}
use Rattle.row_stream.{specs.Reaching.IsUnsetOrAt, specs.Serving.{IsNextTurn, IsServing}, proofs.Turning.HasGone}
use Rattle.row_stream.proofs.waiting.serve_until.Given as goal

-- the banks went on turn by turn, and all of them have come to the tick that was reached: the row has no outcome yet, or has it there, once they went on
abbrev pub invariant-waits : goal.invariant-waits
invariant-waits g l = record {
  came : (raw : RawShape) (seed : ℕ) (asked : List (Asked g.row.B))
      (had : IsServing {n = g.row.B} {m = g.row.M} {e = g.row.E} raw seed asked l.fn.pcm (g.A.CellArray.state l.fn.array) l.fn.out.rows l.fn.out.told l.fn.out.prints l.fn.out.snapshots)
      → HasGone raw seed asked l.fn.pcm (g.A.CellArray.state l.fn.array) l.fn.out.rows l.fn.out.told l.fn.out.prints l.fn.out.snapshots had (IsNextTurn l.until.row l.until.limit)
      l.pcm (g.A.CellArray.state l.array) l.out.rows l.out.told;
  settled : (bank : ℕ) → bank < l.pcm.shape.banks → IsSomeAnd (slice_get l.pcm.banks bank) (IsAtTick l.pcm.tick);
  from : l.fn.pcm.tick ≤ l.pcm.tick;
  within : l.pcm.tick ≤ l.until.limit;
  first : (l.pcm.tick ≡ l.fn.pcm.tick) ⊎ IsUnsetOrAt l.pcm.tick (outcome_in (table_told l.out) l.until.row);
  prints : l.out.prints ≡ l.fn.out.prints;
  snapshots : l.out.snapshots ≡ l.fn.out.snapshots;
  printing : (before : Option (List ℕ)) (first : ℕ) → IsPrinting g.K.Sink.written g.K.Sink.faults before first l.fn.out → IsPrinting g.K.Sink.written g.K.Sink.faults before first l.out;
  wear : (g.A.CellArray.state l.array).wear ≡ (g.A.CellArray.state l.fn.array).wear;
}

abbrev pub decreases-waits : goal.decreases-waits
decreases-waits g l = l.until.limit - l.pcm.tick
