use Rattle.std.proofs.Common.{◌≡◌, ◌⊎◌, ℕ, ◌-◌, ◌<◌, ◌≤◌, List, Some, false}
use Rattle.std.specs.Prelude.{All, IsSomeAnd, slice_get}
use Rattle.result_rows.specs.Outcomes.{tick_of}
use Rattle.module_shape.specs.{Limits.IsShape, declared.raw.RawShape.RawShape}
use Rattle.pcm_module.specs.Settling.{IsAtTick}
use Rattle.row_printer.specs.Telling.{some_told}
use Rattle.trace_stream.specs.declared.asked.Asked.{Asked}
use Rattle.row_stream.{specs.Serving.{IsFirstTurn, IsServing}, proofs.Turning.HasGone}
use Rattle.pcm_library.proofs.waiting.wait_for_any.Given as goal

-- the banks went on turn by turn, and all of them have come to the tick that was reached: the keeper has heard an outcome exactly where one was told, and once
-- they went on, all came at that tick
abbrev pub invariant-turns : goal.invariant-turns
invariant-turns g l = record {
  came : (raw : RawShape) (seed : ℕ) (asked : List (Asked g.row.B))
      (had : IsServing {n = g.row.B} {m = g.row.M} {e = g.row.E} raw seed asked l.fn.pcm (g.A.CellArray.state l.fn.array) l.fn.out.rows l.fn.out.told l.fn.out.prints l.fn.out.snapshots)
      → (gone : HasGone raw seed asked l.fn.pcm (g.A.CellArray.state l.fn.array) l.fn.out.rows l.fn.out.told l.fn.out.prints l.fn.out.snapshots had (IsFirstTurn l.until.limit)
      l.pcm (g.A.CellArray.state l.array) l.out.rows l.out.told)
      × (l.out.heard ≡ some_told gone.outcomes) × ((l.pcm.tick ≡ l.fn.pcm.tick) ⊎ All (λ one. tick_of one.1 ≡ Some l.pcm.tick) gone.outcomes);
  shape : IsShape l.pcm.shape;
  settled : (bank : ℕ) → bank < l.pcm.shape.banks → IsSomeAnd (slice_get l.pcm.banks bank) (IsAtTick l.pcm.tick);
  from : l.fn.pcm.tick ≤ l.pcm.tick;
  within : l.pcm.tick ≤ l.until.limit;
  prints : l.out.prints ≡ l.fn.out.prints;
  snapshots : l.out.snapshots ≡ l.fn.out.snapshots;
  taken : l.out.sink.taken ≡ l.fn.out.sink.taken;
  room : l.out.sink.room ≡ l.fn.out.sink.room;
  same : l.pcm.shape ≡ l.fn.pcm.shape;
  going : l.pcm.finished ≡ false;
  wear : (g.A.CellArray.state l.array).wear ≡ (g.A.CellArray.state l.fn.array).wear;
}

abbrev pub decreases-turns : goal.decreases-turns
decreases-turns g l = l.until.limit - l.pcm.tick
