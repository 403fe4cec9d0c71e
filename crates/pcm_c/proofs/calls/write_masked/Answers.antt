use Rattle.std.proofs.Common.{ℕ, Bool, List, subst}
use Rattle.std.specs.Prelude.{replicate}
use Rattle.masked_bytes.specs.Masked.{laid}
use Rattle.trace_reader.specs.declared.event.EventOp.TheVariants.{Mask}
use Rattle.trace_stream.specs.declared.asked.Asked.TheVariants.{Happens}
use Rattle.pcm_c.specs.Calls.{Takes}
use Rattle.pcm_c.proofs.calls.write_masked.Goals as goal

pub returns-clause-done : goal.returns-clause-done
returns-clause-done g c = λ done. let takes = c.write_masked.ensures.takes (c.told.ensures.done done) in
    let under = replicate g.row.B 0 in
    subst (λ (bytes : List ℕ). Takes g.A.CellArray.state (Happens (record { tick = c.args.tick; op = Mask c.args.line (laid bytes c.args.given.now under) c.args.given.now }))
    c.args.session.now c.write_masked.new.self)
    c.in-Some.ensures.cases.same
    (subst (λ (given : List Bool). Takes g.A.CellArray.state (Happens (record { tick = c.args.tick; op = Mask c.args.line (laid c.in-Some.bytes.now given under) given }))
    c.args.session.now c.write_masked.new.self)
    c.in-Some-as_array.ensures.cases.same
    (record { asked = takes.asked; serves = takes.serves; taken = takes.taken }))
