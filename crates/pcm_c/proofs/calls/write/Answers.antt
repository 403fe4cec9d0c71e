use Rattle.std.proofs.Common.{ℕ, List, subst}
use Rattle.trace_reader.specs.declared.event.EventOp.TheVariants.{Write}
use Rattle.trace_stream.specs.declared.asked.Asked.TheVariants.{Happens}
use Rattle.pcm_c.specs.Calls.{Takes}
use Rattle.pcm_c.proofs.calls.write.Goals as goal

pub returns-clause-done : goal.returns-clause-done
returns-clause-done g c = λ done. let takes = c.write.ensures.takes (c.told.ensures.done done) in
    subst (λ (bytes : List ℕ). Takes g.A.CellArray.state (Happens (record { tick = c.args.tick; op = Write c.args.line bytes })) c.args.session.now c.write.new.self)
    c.in-Some.ensures.cases.same (record { asked = takes.asked; serves = takes.serves; taken = takes.taken })
