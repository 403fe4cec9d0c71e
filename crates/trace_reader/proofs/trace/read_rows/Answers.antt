use Rattle.std.proofs.Common.{◌≡◌, ◌<◌, ◌+◌, ◌++◌, ◌∷◌, [], sym, arith, rules, vec_len}
use Rattle.csv.specs.Records.{fields_of}
use Rattle.trace_reader.{specs.Trace.{after_events, rows_from}, proofs.Traces.{begins, rows-end, row-faulty, row-read, rows-too_many}}
use Rattle.trace_reader.proofs.trace.read_rows.Goals as goal

pub rows-init : goal.rows-init
rows-init g c = ((λ rows left. begins g.row.B c.args.lines c.args.reader.now rows c.args.events.items c.args.first c.args.tick left), omega (arith, c.requires.few))

pub next_row-requires : goal.next_row-requires
next_row-requires g c =
    let h = c.rows.invariant.0 c.requires.open.0 c.requires.open.1 in
    record { «open» = (h.rows, h.left) }

-- the events so far are those of the rows, once no record is left
pub returns-then-not-branch-clause-ok : goal.returns-then-not-branch-clause-ok
returns-then-not-branch-clause-ok g c = λ rows left.
    let h = c.rows.invariant.0 rows left in
    let none = rw c.if-not-branch.true at (c.in_ok-next_row.ensures.found h.rows h.left) in
    rows-end g.row.B c.args.lines (after_events c.args.events.items (rows_from g.row.B c.args.lines c.args.first c.args.tick rows)) c.rows.reader c.rows.events.items c.rows.number c.rows.before h none

pub returns-in-Err-clause-err : goal.returns-in-Err-clause-err
returns-in-Err-clause-err g c = λ other rows left.
    let h = c.rows.invariant.0 rows left in
    let some = rw c.if-not-branch.false at (c.in_ok-next_row.ensures.found h.rows h.left) in
    row-faulty g.row.B c.args.lines (after_events c.args.events.items (rows_from g.row.B c.args.lines c.args.first c.args.tick rows)) c.rows.reader c.rows.events.items c.rows.number c.rows.before (fields_of c.next_row.new.row) some.0 c.in-Err.kind h some.1 (omega arith) (sym c.in-Err.ensures)

pub rows-preserved : goal.rows-preserved
rows-preserved g c =
    let pushed : c.push.new.self.items ≡ c.rows.events.items ++ (c.in-Ok.event ∷ []) = search rules in
    let short : vec_len c.push.new.self < c.rows.number + 1 = search rules in (
      (λ rows left.
          let h = c.rows.invariant.0 rows left in
          let some = rw c.if-not-branch.false at (c.in_ok-next_row.ensures.found h.rows h.left) in
          rw pushed (row-read g.row.B c.args.lines (after_events c.args.events.items (rows_from g.row.B c.args.lines c.args.first c.args.tick rows)) c.rows.reader c.next_row.new.reader c.rows.events.items c.rows.number c.rows.before (fields_of c.next_row.new.row) some.0 c.in-Ok.event h some.1 some.2 (omega arith) (sym c.in-Ok.ensures))),
      short,
    )

pub next_row-requires-2 : goal.next_row-requires-2
next_row-requires-2 g c =
    let h = c.rows.invariant.0 c.requires.open.0 c.requires.open.1 in
    record { «open» = (h.rows, h.left) }

pub returns-then-branch-clause-err : goal.returns-then-branch-clause-err
returns-then-branch-clause-err g c = λ other rows left.
    let h = c.rows.invariant.0 rows left in
    let some = rw c.if-branch.true at (c.in_ok-next_row-2.ensures.found h.rows h.left) in
    rows-too_many g.row.B c.args.lines (after_events c.args.events.items (rows_from g.row.B c.args.lines c.args.first c.args.tick rows)) c.rows.reader c.rows.events.items c.rows.number c.rows.before (fields_of c.next_row-2.new.row) some.0 h some.1 (omega arith)

pub returns-else-branch-clause-ok : goal.returns-else-branch-clause-ok
returns-else-branch-clause-ok g c = λ rows left.
    let h = c.rows.invariant.0 rows left in
    let none = rw c.if-branch.false at (c.in_ok-next_row-2.ensures.found h.rows h.left) in
    rows-end g.row.B c.args.lines (after_events c.args.events.items (rows_from g.row.B c.args.lines c.args.first c.args.tick rows)) c.rows.reader c.rows.events.items c.rows.number c.rows.before h none
