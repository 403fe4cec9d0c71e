use Rattle.std.proofs.Common.{◌≡◌, ◌<◌, length, eqb-true, sym, ◌∙◌}
use Rattle.trace_stream.proofs.Steps.{five-decide, goes-decides, goes-goes}
use Rattle.trace_stream.proofs.records.Records.advance.Goals as goal

pub returns-then-is_full-clause-decided : goal.returns-then-is_full-clause-decided
returns-then-is_full-clause-decided c = λ yes.
    let five : length c.take_byte.new.self.kept.fields ≡ 5 = eqb-true (length c.take_byte.new.self.kept.fields) 5 (sym c.is_full.ensures ∙ c.if-is_full.true) in
    let few : length c.take_run.new.self.kept.fields < 5 = rw c.take_run.ensures.fields c.bytes.invariant.few in
    let run = goes-goes _ _ _ _ _ _ _ _ _ _ _ _ c.bytes.invariant.few c.bytes.invariant.goes_on c.take_run.ensures.goes_on in
    let byte = goes-goes _ _ _ _ _ _ _ _ _ _ _ _ few run (c.take_byte.ensures.goes_on c.if-take_byte.false) in
    goes-decides _ _ _ _ _ _ _ _ _ _ _ byte (five-decide _ _ _ _ five (c.take_byte.ensures.fifth c.if-take_byte.false five))
