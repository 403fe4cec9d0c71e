use Rattle.std.proofs.Common.{[], refl, sym, ◌∙◌}
use Rattle.std.proofs.lemmas.Result.{MatchResult-weaker}
use Rattle.pcm_io.proofs.ByteLemmas.{Takes-nothing}
use Rattle.trace_stream.{specs.Machine.state_of, specs.Stream.Standing, proofs.Lawful.{asked-lawful, asked-waits}}
use Rattle.trace_stream.proofs.Rows.{asks-faulty, asks-none, asks-some, asks-too_many, happens-counted, no-front, no-front-past}
use Rattle.trace_stream.proofs.stream.TraceStream.next.Goals as goal

pub returns-in-Some-clause-fault : goal.returns-in-Some-clause-fault
returns-in-Some-clause-fault g c =
    let ended = c.take_plain.ensures.ended in
    MatchResult-weaker c.take_plain.result c.take_plain.ensures.fault (λ v p. p)
    (λ e p text. ([], Takes-nothing _ _, λ before. (refl, ended ∙ before), λ end now. end (sym ended ∙ now), p.1, p.2))

pub returns-then-not-branch-clause-ok : goal.returns-then-not-branch-clause-ok
returns-then-not-branch-clause-ok g c =
    let old : Standing = record { arrived = c.self.inside.records.incoming; state = state_of c.self.inside.records.place; rows = c.self.inside.rows; tick = c.self.inside.tick; lines = c.self.inside.lines } in
    let new : Standing = record { arrived = c.next.new.self.incoming; state = state_of c.next.new.self.place; rows = c.self.inside.rows; tick = c.self.inside.tick; lines = c.self.inside.lines } in
    let found = rw c.if-not-branch.true at c.in_ok-next.ensures.found in
    rw (← c.self.view_is) (found.0, found.1, found.2, asks-none g.row.B old new found.0 c.next.new.self.kept.fields found.3)

pub returns-then-is_past-clause-fault : goal.returns-then-is_past-clause-fault
returns-then-is_past-clause-fault g c = λ text.
    let old : Standing = record { arrived = c.self.inside.records.incoming; state = state_of c.self.inside.records.place; rows = c.self.inside.rows; tick = c.self.inside.tick; lines = c.self.inside.lines } in
    let new : Standing = record { arrived = c.next.new.self.incoming; state = state_of c.next.new.self.place; rows = c.self.inside.rows; tick = c.self.inside.tick; lines = c.self.inside.lines } in
    let found = rw c.if-not-branch.false at c.in_ok-next.ensures.found in
    let past = sym c.is_past.ensures ∙ c.if-is_past.true in
    rw (← c.self.view_is) (found.0, found.1, found.2, c.in_ok-next.ensures.end, asks-too_many g.row.B old new found.0 c.next.new.self.kept.fields c.requires found.3 past, no-front-past g.row.B old new found.0 c.next.new.self.kept.fields c.requires found.3 past)

pub returns-in-Ok-clause-ok : goal.returns-in-Ok-clause-ok
returns-in-Ok-clause-ok g c =
    let old : Standing = record { arrived = c.self.inside.records.incoming; state = state_of c.self.inside.records.place; rows = c.self.inside.rows; tick = c.self.inside.tick; lines = c.self.inside.lines } in
    let new : Standing = record { arrived = c.next.new.self.incoming; state = state_of c.next.new.self.place; rows = c.rows_after-self-inside.result; tick = c.tick-self-inside.result; lines = c.self.inside.lines } in
    let found = rw c.if-not-branch.false at c.in_ok-next.ensures.found in
    let asks = sym c.in-Ok.ensures in
    let within = sym c.is_past.ensures ∙ c.if-is_past.false in
    rw (← c.self.view_is) (found.0, found.1, found.2, asks-some g.row.B old new found.0 c.next.new.self.kept.fields c.in-Ok.asked c.requires found.3 asks within c.rows_after-self-inside.ensures c.tick-self-inside.ensures refl)

pub returns-in-Ok-clause-lawful : goal.returns-in-Ok-clause-lawful
returns-in-Ok-clause-lawful g c =
    let asks = sym c.in-Ok.ensures in
    rw (← c.self.view_is) (asked-lawful g.row.B c.self.inside.lines c.self.inside.rows c.self.inside.tick c.next.new.self.kept.fields c.in-Ok.asked c.self.invariant.0 asks)

pub returns-in-Err-clause-fault : goal.returns-in-Err-clause-fault
returns-in-Err-clause-fault g c = λ text.
    let old : Standing = record { arrived = c.self.inside.records.incoming; state = state_of c.self.inside.records.place; rows = c.self.inside.rows; tick = c.self.inside.tick; lines = c.self.inside.lines } in
    let new : Standing = record { arrived = c.next.new.self.incoming; state = state_of c.next.new.self.place; rows = c.self.inside.rows; tick = c.self.inside.tick; lines = c.self.inside.lines } in
    let found = rw c.if-not-branch.false at c.in_ok-next.ensures.found in
    let asks = sym c.in-Err.ensures in
    let within = sym c.is_past.ensures ∙ c.if-is_past.false in
    rw (← c.self.view_is) (found.0, found.1, found.2, c.in_ok-next.ensures.end, asks-faulty g.row.B old new found.0 c.next.new.self.kept.fields c.in-Err.kind c.requires found.3 asks within, no-front g.row.B old new found.0 c.next.new.self.kept.fields c.in-Err.kind c.requires found.3 asks within)

pub invariant_of-self-in-Ok : goal.invariant_of-self-in-Ok
invariant_of-self-in-Ok g c =
    let asks = sym c.in-Ok.ensures in
    let within = sym c.is_past.ensures ∙ c.if-is_past.false in
    (c.self.invariant.0, rw c.rows_after-self-inside.ensures (happens-counted g.row.B c.self.inside.lines c.self.inside.rows c.self.inside.tick c.next.new.self.kept.fields c.in-Ok.asked asks c.self.invariant.1 within))

pub returns-in-Ok-clause-row : goal.returns-in-Ok-clause-row
returns-in-Ok-clause-row g c =
    let asks = sym c.in-Ok.ensures in
    let within = sym c.is_past.ensures ∙ c.if-is_past.false in
    rw (← c.self.view_is) (
      c.rows_after-self-inside.ensures,
      rw c.rows_after-self-inside.ensures (happens-counted g.row.B c.self.inside.lines c.self.inside.rows c.self.inside.tick c.next.new.self.kept.fields c.in-Ok.asked asks c.self.invariant.1 within),
      c.tick-self-inside.ensures,
    )

pub returns-in-Ok-clause-waits : goal.returns-in-Ok-clause-waits
returns-in-Ok-clause-waits g c =
    let asks = sym c.in-Ok.ensures in
    rw (← c.self.view_is) (asked-waits g.row.B c.self.inside.lines c.self.inside.rows c.self.inside.tick c.next.new.self.kept.fields c.in-Ok.asked asks)

-- the source is asked for no more than a record
pub returns-in-Some-clause-asks : goal.returns-in-Some-clause-asks
returns-in-Some-clause-asks g c = (0, [], (refl, refl))

pub returns-in_err-next-clause-asks : goal.returns-in_err-next-clause-asks
returns-in_err-next-clause-asks g c = rw (← c.self.view_is) c.next.ensures.asks

pub returns-then-not-branch-clause-asks : goal.returns-then-not-branch-clause-asks
returns-then-not-branch-clause-asks g c = rw (← c.self.view_is) c.next.ensures.asks

pub returns-then-is_past-clause-asks : goal.returns-then-is_past-clause-asks
returns-then-is_past-clause-asks g c = rw (← c.self.view_is) c.next.ensures.asks

pub returns-in-Ok-clause-asks : goal.returns-in-Ok-clause-asks
returns-in-Ok-clause-asks g c = rw (← c.self.view_is) c.next.ensures.asks

pub returns-in-Err-clause-asks : goal.returns-in-Err-clause-asks
returns-in-Err-clause-asks g c = rw (← c.self.view_is) c.next.ensures.asks
