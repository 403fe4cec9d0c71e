use Rattle.std.proofs.Common.{◌∙◌, ℕ, Err, ap, inl, inr, refl, sym, subst, arith}
use Rattle.module_shape.specs.Limits.{total_of}
use Rattle.trace_stream.specs.Asked.{NamesRow}
use Rattle.row_stream.{specs.Stepping.TellsNoMore, proofs.Rows.{asked-ever, asked_fits}, proofs.Steps.{may-serve, takes-behind, writes-behind, writes-stop}}
use Rattle.row_stream.proofs.stepping.take_given.Goals as goal

pub take_row-requires : goal.take_row-requires
take_row-requires g c =
    let r = c.requires in
    let e = c.next_row.ensures in
    let given = rw c.in-Ok-Some.field-0-is at c.in-Ok-Some.ensures.ok in
    let told : TellsNoMore c.args.out.now c.next_row.new.out = record { rows = e.rows; told = e.told; snapshots = e.snapshots; prints = e.prints } in
    let asked = asked-ever c.args.stream.now.lines (total_of c.args.pcm.now.shape) c.args.stream.now.tick c.in-Ok-Some.asked r.lines given.lawful in
    let named = subst (λ (k : ℕ). NamesRow k c.in-Ok-Some.asked) (r.rows ∙ sym e.rows) given.waits.0 in
    (omega arith, (asked_fits g.row.B r.layout.shape.1, (omega arith, (r.layout, (asked, (named, (omega (arith, e.rows, r.few), may-serve c.args.pcm.now (g.A.CellArray.state c.args.array.now) c.args.out.now c.next_row.new.out told r.serving)))))))

pub returns-in-Ok-Some-clause-steps : goal.returns-in-Ok-Some-clause-steps
returns-in-Ok-Some-clause-steps g c =
    let e = c.next_row.ensures in
    let told : TellsNoMore c.args.out.now c.next_row.new.out = record { rows = e.rows; told = e.told; snapshots = e.snapshots; prints = e.prints } in
    inl (
      c.in-Ok-Some.asked,
      rw c.in-Ok-Some.field-0-is at c.in-Ok-Some.ensures.ok,
      takes-behind c.args.stops c.args.pcm.now c.take_row.new.pcm (g.A.CellArray.state c.args.array.now) (g.A.CellArray.state c.take_row.new.array) c.args.out.now c.next_row.new.out c.take_row.new.out c.in-Ok-Some.asked
          c.take_row.result told c.take_row.ensures.takes,
    )

pub returns-in-Ok-Some-clause-writes : goal.returns-in-Ok-Some-clause-writes
returns-in-Ok-Some-clause-writes g c =
    writes-behind g.K.Sink.written g.K.Sink.faults c.args.out.now c.next_row.new.out c.take_row.new.out c.take_row.result c.next_row.ensures.prints c.next_row.ensures.printing c.take_row.ensures.writes

-- there is none
pub returns-in-Ok-None-clause-steps : goal.returns-in-Ok-None-clause-steps
returns-in-Ok-None-clause-steps g c =
    let e = c.next_row.ensures in
    let given = rw c.in-Ok-None.field-0-is at c.in-Ok-None.ensures.ok in
    inr (record { same = refl; array = refl; printer = record { rows = e.rows; told = e.told; snapshots = e.snapshots; prints = e.prints } }, (given, refl))

pub returns-in-Ok-None-clause-writes : goal.returns-in-Ok-None-clause-writes
returns-in-Ok-None-clause-writes g c =
    let written = rw c.in-Ok-None.field-0-is at c.in-Ok-None.ensures.none in
    record { prints = c.next_row.ensures.prints; printing = c.next_row.ensures.printing; whole = λ is. written; part = λ is. cc is }

pub returns-in-Err-clause-steps : goal.returns-in-Err-clause-steps
returns-in-Err-clause-steps g c =
    let e = c.next_row.ensures in
    inr (record { same = refl; array = refl; printer = record { rows = e.rows; told = e.told; snapshots = e.snapshots; prints = e.prints } }, c.in-Err.ensures.err)

pub returns-in-Err-clause-writes : goal.returns-in-Err-clause-writes
returns-in-Err-clause-writes g c =
    writes-stop g.K.Sink.written g.K.Sink.faults c.args.out.now c.next_row.new.out c.in-Err.stop c.next_row.ensures.prints c.next_row.ensures.printing c.in-Err.ensures.written (λ is. c.in-Err.ensures.part (ap Err is))

-- what was known was written before the source was asked
pub returns-in-Ok-Some-clause-waits : goal.returns-in-Ok-Some-clause-waits
returns-in-Ok-Some-clause-waits g c = c.next_row.ensures.waits

pub returns-in-Ok-None-clause-waits : goal.returns-in-Ok-None-clause-waits
returns-in-Ok-None-clause-waits g c = c.next_row.ensures.waits

pub returns-in-Err-clause-waits : goal.returns-in-Err-clause-waits
returns-in-Err-clause-waits g c = c.next_row.ensures.waits
