use Rattle.std.proofs.Common.{◌≡◌, ℕ, List, [], length, Option, true, false}
use Rattle.module_shape.specs.{Limits.total_of, declared.raw.RawShape.RawShape}
use Rattle.trace_gen.specs.Generated.{generated}
use Rattle.trace_reader.specs.Events.{AreEventsFor}
use Rattle.drawn_parts.specs.Parts.{drawn_for}
use Rattle.row_printer.specs.{Printing.{IsPrinting, table_told}, Refusing.any_refused}
use Rattle.row_stream.{specs.Serving.IsServing, proofs.Draws.HasDrawn}
use Rattle.row_stream.proofs.drawing.serve_drawn.Given as goal

-- the rows so far were served
abbrev pub invariant-rows : goal.invariant-rows
invariant-rows g l = record {
  drawn : (raw : RawShape) (own : ℕ) → IsServing {n = g.row.B} {m = g.row.M} {e = g.row.E} raw own [] l.fn.pcm (g.A.CellArray.state l.fn.array) l.fn.out.rows l.fn.out.told l.fn.out.prints l.fn.out.snapshots
      → HasDrawn {n = g.row.B} {m = g.row.M} {e = g.row.E} l.fn.stops raw own l.pcm (g.A.CellArray.state l.array) l.out.rows l.out.told l.out.prints l.out.snapshots (drawn_for raw l.fn.seed l.fn.banks (generated g.row.B l.fn.seed (total_of raw) l.fn.mix)) (drawn_for raw l.fn.seed l.fn.banks l.generator) l.behind;
  lawful : AreEventsFor (total_of l.fn.pcm.shape) 0 l.generator;
  prints : l.out.prints ≡ l.fn.out.prints;
  printing : (before : Option (List ℕ)) (first : ℕ) → IsPrinting g.K.Sink.written g.K.Sink.faults before first l.fn.out → IsPrinting g.K.Sink.written g.K.Sink.faults before first l.out;
  none : l.fn.stops ≡ true → any_refused (table_told l.out) ≡ false;
  wear : (g.A.CellArray.state l.array).wear ≡ (g.A.CellArray.state l.fn.array).wear;
}

abbrev pub decreases-rows : goal.decreases-rows
decreases-rows g l = length l.generator
