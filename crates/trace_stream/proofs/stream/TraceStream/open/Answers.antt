use Rattle.std.proofs.Common.{◌≡◌, ◌++◌, ◌∙◌, ap, refl, sym, arith}
use Rattle.std.{specs.Prelude.Err, proofs.lemmas.List.length-append, proofs.lemmas.Result.err_from_is_err_and}
use Rattle.trace_stream.{specs.Machine.state_of, specs.Stream.Standing, specs.declared.fault.StreamFault.TheVariants.{Endless, Read}, proofs.Marks.lacks-more}
use Rattle.trace_stream.{specs.Kept.LacksHeader, specs.Requests.LacksRow, proofs.Requests.asks-asks}
use Rattle.csv.specs.declared.parser.State.TheVariants.{StartRecord}
use Rattle.trace_stream.proofs.Rows.{opens, opens-none, opens-wrong}
use Rattle.trace_stream.proofs.stream.TraceStream.open.Goals.{then-not-found-via-then-not-found, then-not-found-via-else-not-found+then-not-is_header_row}
use Rattle.trace_stream.proofs.stream.TraceStream.open.Goals as goal
use Rattle.pcm_io.proofs.ByteLemmas.{Takes-Takes}

pub returns-then-not-found-clause-fault : goal.returns-then-not-found-clause-fault
returns-then-not-found-clause-fault g c = λ text.
    let begun = c.in-Ok.ensures.ok in
    let found = c.in_ok-found.ensures.found in (
      begun.0 ++ found.0,
      c.next.new.self.incoming.ended,
      Takes-Takes _ _ _ _ _ _ _ _ begun.1 found.1,
      c.in_ok-found.ensures.end c.in-Ok.ensures.end,
      λ n. elim c.then-not-found.branch [
        | then-not-found-via-then-not-found w ↦
            let none = rw w.if-not-found.true at found.3 in
            opens-none n c.args.lines begun.0 found.0 c.in-Ok.incoming c.next.new.self.kept.fields (state_of c.next.new.self.place) c.next.new.self.incoming begun.2 found.2 none
        | then-not-found-via-else-not-found+then-not-is_header_row w ↦
            let some = rw w.if-not-found.false at found.3 in
            let wrong = sym w.is_header_row.ensures ∙ w.if-not-is_header_row.true in
            opens-wrong n c.args.lines begun.0 found.0 c.in-Ok.incoming c.next.new.self.kept.fields (state_of c.next.new.self.place) c.next.new.self.incoming begun.2 found.2 some wrong
      ],
    )

pub returns-clause-ok : goal.returns-clause-ok
returns-clause-ok g c =
    let begun = c.in-Ok.ensures.ok in
    let some = rw c.if-not-found.false at c.in_ok-found.ensures.found in
    let right = sym c.is_header_row.ensures ∙ c.if-not-is_header_row.false in
    let new : Standing = record { arrived = c.next.new.self.incoming; state = state_of c.next.new.self.place; rows = 0; tick = 0; lines = c.args.lines } in (
      begun.0 ++ some.0,
      Takes-Takes _ _ _ _ _ _ _ _ begun.1 some.1,
      opens c.args.lines begun.0 some.0 c.in-Ok.incoming c.next.new.self.kept.fields new begun.2 some.2 some.3 right refl refl refl,
    )

pub returns-in_err-found-clause-endless : goal.returns-in_err-found-clause-endless
returns-in_err-found-clause-endless g c =
    let fault = err_from_is_err_and c.from_residual-in_err-found.result c.from_residual-in_err-found.ensures.1 in
    let begun = c.in-Ok.ensures.ok in
    rw (fault.1, fault.2) (λ is.
    let same : c.in_err-found.field-0.0 ≡ Endless = cc is in
    let next = c.in_err-found.ensures.endless (ap Err same) in
    let joined = length-append begun.0 next.0 in
    (begun.0 ++ next.0, Takes-Takes _ _ _ _ _ _ _ _ begun.1 next.1, omega (arith, joined, next.2)))

pub returns-in_default-clause-sparing : goal.returns-in_default-clause-sparing
returns-in_default-clause-sparing g c = λ is. c.in_default.ensures.sparing

pub returns-in_err-found-clause-sparing : goal.returns-in_err-found-clause-sparing
returns-in_err-found-clause-sparing g c =
    let fault = err_from_is_err_and c.from_residual-in_err-found.result c.from_residual-in_err-found.ensures.1 in
    let begun = c.in-Ok.ensures.ok in
    rw (fault.1, fault.2) (λ is.
    let same : c.in_err-found.field-0.0 ≡ Read = cc is in
    let next = c.in_err-found.ensures.sparing (ap Err same) in
    (begun.0 ++ next.0, Takes-Takes _ _ _ _ _ _ _ _ begun.1 next.1, lacks-more _ _ _ begun.2 next.2 next.3))

-- the source is asked for no more than the header
pub returns-in_default-clause-asks : goal.returns-in_default-clause-asks
returns-in_default-clause-asks g c = c.in_default.ensures.asks

pub returns-in_err-found-clause-asks : goal.returns-in_err-found-clause-asks
returns-in_err-found-clause-asks g c =
    let begun = c.in-Ok.ensures.ok in
    let next = c.next.ensures.asks in
    let asked = asks-asks g.S.Source.left g.S.Source.taken LacksHeader (LacksRow StartRecord c.in-Ok.incoming) c.args.source.now c.begin.new.source c.next.new.source begun.3 next.0 begun.0 next.1 begun.4 next.2
    (λ came lacks. lacks-more c.in-Ok.incoming begun.0 came begun.2 lacks.0 lacks.1) in
    (asked.0, begun.0 ++ next.1, asked.1)

pub returns-then-not-found-clause-asks : goal.returns-then-not-found-clause-asks
returns-then-not-found-clause-asks g c =
    let begun = c.in-Ok.ensures.ok in
    let next = c.next.ensures.asks in
    let asked = asks-asks g.S.Source.left g.S.Source.taken LacksHeader (LacksRow StartRecord c.in-Ok.incoming) c.args.source.now c.begin.new.source c.next.new.source begun.3 next.0 begun.0 next.1 begun.4 next.2
    (λ came lacks. lacks-more c.in-Ok.incoming begun.0 came begun.2 lacks.0 lacks.1) in
    (asked.0, begun.0 ++ next.1, asked.1)

pub returns-clause-asks : goal.returns-clause-asks
returns-clause-asks g c =
    let begun = c.in-Ok.ensures.ok in
    let next = c.next.ensures.asks in
    let asked = asks-asks g.S.Source.left g.S.Source.taken LacksHeader (LacksRow StartRecord c.in-Ok.incoming) c.args.source.now c.begin.new.source c.next.new.source begun.3 next.0 begun.0 next.1 begun.4 next.2
    (λ came lacks. lacks-more c.in-Ok.incoming begun.0 came begun.2 lacks.0 lacks.1) in
    (asked.0, begun.0 ++ next.1, asked.1)
