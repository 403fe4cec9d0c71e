use Rattle.std.proofs.Common.{ap, refl}
use Rattle.trace_stream.{specs.Kept.Kept, proofs.Steps.{goes-byte, ends-byte, first-byte}}
use Rattle.trace_stream.proofs.records.Records.take_byte.Goals as goal

pub returns-in-Skip-clause-goes_on : goal.returns-in-Skip-clause-goes_on
returns-in-Skip-clause-goes_on c = λ no.
    let text = rw (← c.pass.ensures.bytes) at (first-byte c.args.self.now.incoming.bytes c.requires.some) in
    let e = rw (c.in-Skip.is, c.bytes.ensures) at c.step-place.ensures in
    goes-byte _ _ _ _ _ _ _ _ _ _ text e refl refl refl c.requires.few

pub returns-in-Keep-clause-goes_on : goal.returns-in-Keep-clause-goes_on
returns-in-Keep-clause-goes_on c = λ no.
    let text = rw (← c.pass.ensures.bytes) at (first-byte c.args.self.now.incoming.bytes c.requires.some) in
    let e = rw (c.in-Keep.is, c.bytes.ensures) at c.step-place.ensures in
    let kept = rw c.bytes.ensures at c.keep.ensures in
    goes-byte _ _ _ _ _ _ _ _ _ _ text e refl (ap (λ (k : Kept). k.fields) kept) (ap (λ (k : Kept). k.field) kept) c.requires.few

pub returns-in-EndField-clause-goes_on : goal.returns-in-EndField-clause-goes_on
returns-in-EndField-clause-goes_on c = λ no.
    let text = rw (← c.pass.ensures.bytes) at (first-byte c.args.self.now.incoming.bytes c.requires.some) in
    let e = rw (c.in-EndField.is, c.bytes.ensures) at c.step-place.ensures in
    goes-byte _ _ _ _ _ _ _ _ _ _ text e refl (ap (λ (k : Kept). k.fields) c.end_field.ensures) (ap (λ (k : Kept). k.field) c.end_field.ensures) c.requires.few

pub returns-in-EndRecord-clause-ended : goal.returns-in-EndRecord-clause-ended
returns-in-EndRecord-clause-ended c = λ yes.
    let text = rw (← c.pass.ensures.bytes) at (first-byte c.args.self.now.incoming.bytes c.requires.some) in
    let e = rw (c.in-EndRecord.is, c.bytes.ensures) at c.step-place.ensures in
    ends-byte _ _ _ _ _ _ _ _ _ text e refl (ap (λ (k : Kept). k.fields) c.end_field-in-EndRecord.ensures)
