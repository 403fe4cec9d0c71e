use Rattle.std.proofs.Common.{ℕ, List, ◌<◌, vec_len}
use Rattle.trace_reader.{specs.Records.HasLeft, specs.Trace.{after_events, rows_from}, proofs.Traces.HasRead}
use Rattle.trace_reader.proofs.trace.read_rows.Given as goal

-- the rows so far were read
abbrev pub invariant-rows : goal.invariant-rows
invariant-rows g l =
    ((rows : List (List (List ℕ))) → HasLeft l.initial.reader rows → HasRead g.row.B l.lines (after_events l.initial.events.items (rows_from g.row.B l.lines l.first l.tick rows)) l.reader l.events.items l.number l.before)
    × (vec_len l.events < l.number)
