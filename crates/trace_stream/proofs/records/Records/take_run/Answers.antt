use Rattle.std.proofs.Common.{◌≡◌, take, sym, ap, ◌∙◌, arith}
use Rattle.std.proofs.lemmas.Grind.{common_steps}
use Rattle.trace_reader.specs.Plain.{is_plain}
use Rattle.trace_stream.{specs.Kept.{Kept, with_bytes}, proofs.PlainNext.all_first, proofs.Steps.goes-run}
use Rattle.trace_stream.proofs.records.Records.take_run.Goals as goal

pub returns-then-run-gt0-clause-goes_on : goal.returns-then-run-gt0-clause-goes_on
returns-then-run-gt0-clause-goes_on c =
    let field : c.keep.new.self.field ≡ with_bytes c.args.self.now.kept.field (take c.plain_end-run.result c.args.self.now.incoming.bytes) = grind (arith, common_steps) in
    let plain = all_first is_plain c.bytes-bytes.result.now c.plain_end-run.result c.plain_end-run.ensures.within (λ k low. c.plain_end-run.ensures.plain k (omega arith) low) in
    goes-run _ _ _ _ _ _ _ c.plain_end-run.result
    (sym c.takes_plain.ensures ∙ c.if-takes_plain.true) (rw c.bytes-bytes.ensures at plain) c.if-run-gt0.true
    (rw c.bytes-bytes.ensures at c.plain_end-run.ensures.within)
    (ap (λ (k : Kept). k.fields) c.keep.ensures) field c.pass.ensures.bytes
