use Rattle.std.proofs.Common.{sym, subst}
use Rattle.trace_stream.specs.{Asked.reached_at, declared.asked.Asked.Asked}
use Rattle.row_stream.specs.Serving.{ServesOn}
use Rattle.row_stream.proofs.serving.serve.Goals as goal

pub returns-in-Happens-clause-serves : goal.returns-in-Happens-clause-serves
returns-in-Happens-clause-serves g c =
    let P : Asked g.row.B → Type 0 = λ row. ServesOn (λ before. reached_at c.serve_event.new.pcm.tick row) c.args.pcm.now c.serve_event.new.pcm (g.A.CellArray.state c.args.array.now) (g.A.CellArray.state c.serve_event.new.array) c.args.out.now c.serve_event.new.out in
    subst P (sym c.in-Happens.is) c.serve_event.ensures.serves

pub returns-in-Settle-clause-serves : goal.returns-in-Settle-clause-serves
returns-in-Settle-clause-serves g c =
    let P : Asked g.row.B → Type 0 = λ row. ServesOn (λ before. reached_at c.serve_settle.new.pcm.tick row) c.args.pcm.now c.serve_settle.new.pcm (g.A.CellArray.state c.args.array.now) (g.A.CellArray.state c.serve_settle.new.array) c.args.out.now c.serve_settle.new.out in
    subst P (sym c.in-Settle.is) c.serve_settle.ensures.serves

pub returns-in-Query-clause-serves : goal.returns-in-Query-clause-serves
returns-in-Query-clause-serves g c =
    let P : Asked g.row.B → Type 0 = λ row. ServesOn (λ before. reached_at c.serve_query.new.pcm.tick row) c.args.pcm.now c.serve_query.new.pcm (g.A.CellArray.state c.args.array.now) (g.A.CellArray.state c.serve_query.new.array) c.args.out.now c.serve_query.new.out in
    subst P (sym c.in-Query.is) c.serve_query.ensures.serves

pub returns-in-Look-clause-serves : goal.returns-in-Look-clause-serves
returns-in-Look-clause-serves g c =
    let P : Asked g.row.B → Type 0 = λ row. ServesOn (λ before. reached_at c.serve_look.new.pcm.tick row) c.args.pcm.now c.serve_look.new.pcm (g.A.CellArray.state c.args.array.now) (g.A.CellArray.state c.serve_look.new.array) c.args.out.now c.serve_look.new.out in
    subst P (sym c.in-Look.is) c.serve_look.ensures.serves

pub returns-in-Until-clause-serves : goal.returns-in-Until-clause-serves
returns-in-Until-clause-serves g c =
    let P : Asked g.row.B → Type 0 = λ row. ServesOn (λ before. reached_at c.serve_until.new.pcm.tick row) c.args.pcm.now c.serve_until.new.pcm (g.A.CellArray.state c.args.array.now) (g.A.CellArray.state c.serve_until.new.array) c.args.out.now c.serve_until.new.out in
    subst P (sym c.in-Until.is) c.serve_until.ensures.serves

pub returns-in-Peek-clause-serves : goal.returns-in-Peek-clause-serves
returns-in-Peek-clause-serves g c =
    let P : Asked g.row.B → Type 0 = λ row. ServesOn (λ before. reached_at c.serve_peek.new.pcm.tick row) c.args.pcm.now c.serve_peek.new.pcm (g.A.CellArray.state c.args.array.now) (g.A.CellArray.state c.serve_peek.new.array) c.args.out.now c.serve_peek.new.out in
    subst P (sym c.in-Peek.is) c.serve_peek.ensures.serves

pub returns-in-UntilAny-clause-serves : goal.returns-in-UntilAny-clause-serves
returns-in-UntilAny-clause-serves g c =
    let P : Asked g.row.B → Type 0 = λ row. ServesOn (λ before. reached_at c.serve_until_any.new.pcm.tick row) c.args.pcm.now c.serve_until_any.new.pcm (g.A.CellArray.state c.args.array.now) (g.A.CellArray.state c.serve_until_any.new.array) c.args.out.now c.serve_until_any.new.out in
    subst P (sym c.in-UntilAny.is) c.serve_until_any.ensures.serves
