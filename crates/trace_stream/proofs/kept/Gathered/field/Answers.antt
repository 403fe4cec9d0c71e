use Rattle.std.proofs.Common.{◌∙◌, arith}
use Rattle.trace_stream.proofs.Gathering.{field-past, field-read}
use Rattle.trace_stream.proofs.kept.Gathered.field.Goals as goal

pub returns-then-index-self : goal.returns-then-index-self
returns-then-index-self c =
    rw (← c.self.view_is) (c.bytes.ensures ∙ field-read c.self.inside.fields.items c.self.inside.whole c.args.index c.index.result.now c.self.invariant.0 c.self.invariant.1 c.if-index-self.true c.index.ensures)

pub returns-else-index-self : goal.returns-else-index-self
returns-else-index-self c = rw (← c.self.view_is) (field-past c.self.inside.fields.items c.self.inside.whole c.args.index (omega (arith, c.if-index-self.false)))
