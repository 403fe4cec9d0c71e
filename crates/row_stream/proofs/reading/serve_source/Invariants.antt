use Rattle.std.proofs.Common.{◌≡◌, ℕ, List, [], Option, true, false}
use Rattle.std.specs.Io.KnownBytes.{IsAtEnd}
use Rattle.module_shape.specs.declared.raw.RawShape.{RawShape}
use Rattle.row_printer.specs.{Printing.{IsPrinting, table_told}, Refusing.any_refused}
use Rattle.row_stream.{specs.Serving.IsServing, proofs.Rows.HasFed, proofs.Telling.Tells}
use Rattle.row_stream.proofs.reading.serve_source.Given as goal

-- the rows so far were served
abbrev pub invariant-rows : goal.invariant-rows
invariant-rows g l = record {
  came : (raw : RawShape) (seed : ℕ) → IsServing {n = g.row.B} {m = g.row.M} {e = g.row.E} raw seed [] l.fn.pcm (g.A.CellArray.state l.fn.array) l.fn.out.rows l.fn.out.told l.fn.out.prints l.fn.out.snapshots
      → HasFed {n = g.row.B} {m = g.row.M} {e = g.row.E} l.fn.stops raw seed l.pcm (g.A.CellArray.state l.array) l.out.rows l.out.told l.out.prints l.out.snapshots g.S.Source.left g.S.Source.taken g.S.Source.faults l.fn.source l.source l.stream l.behind l.counter;
  «end» : l.stream.arrived.ended ≡ true → IsAtEnd (g.S.Source.left l.source);
  prints : l.out.prints ≡ l.fn.out.prints;
  printing : (before : Option (List ℕ)) (first : ℕ) → IsPrinting g.K.Sink.written g.K.Sink.faults before first l.fn.out → IsPrinting g.K.Sink.written g.K.Sink.faults before first l.out;
  none : l.fn.stops ≡ true → any_refused (table_told l.out) ≡ false;
  wear : (g.A.CellArray.state l.array).wear ≡ (g.A.CellArray.state l.fn.array).wear;
  waits : (raw : RawShape) (seed : ℕ) → IsServing {n = g.row.B} {m = g.row.M} {e = g.row.E} raw seed [] l.fn.pcm (g.A.CellArray.state l.fn.array) l.fn.out.rows l.fn.out.told l.fn.out.prints l.fn.out.snapshots
      → (before : Option (List ℕ)) (first : ℕ) → IsPrinting g.K.Sink.written g.K.Sink.faults before first l.fn.out
      → Tells g.row.B g.row.M g.row.E raw seed g.S.Source.left g.S.Source.taken g.S.Source.faults l.fn.source g.K.Sink.written g.K.Sink.faults before first l.fn.out.prints l.source;
  calm : g.S.Source.faults l.source ≡ g.S.Source.faults l.fn.source;
}
