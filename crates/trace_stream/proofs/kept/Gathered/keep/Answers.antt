use Rattle.std.proofs.Common.{◌≡◌, ◌<◌, take, arith}
use Rattle.std.proofs.lemmas.Grind.{common_steps}
use Rattle.pcm_io.specs.Reserved.{appended}
use Rattle.trace_stream.proofs.Gathering.{kept-count, kept-more}
use Rattle.trace_stream.proofs.kept.Gathered.keep.Goals as goal

pub returns : goal.returns
returns c =
    let size = kept-count c.self.inside.whole c.self.inside.fields.items c.self.invariant.0 c.self.invariant.1 in
    let less = rw (← c.self.view_is) at c.requires in
    let few : c.self.inside.whole < 5 = omega (arith, size, less) in
    let pushed : c.push.new.self ≡ appended c.index_mut-field.result.now (take c.min-count.result c.args.bytes.now) = grind (arith, common_steps) in
    rw (← c.self.view_is, pushed)
    (kept-more c.self.inside.fields.items c.self.inside.whole c.index_mut-field.result.now c.args.bytes.now c.min-count.result c.self.invariant.0 few c.index_mut-field.ensures.value (omega arith))
