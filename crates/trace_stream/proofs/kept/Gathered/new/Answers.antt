use Rattle.std.proofs.Common.{◌≡◌, ap, replicate, ◌∙◌, arith}
use Rattle.pcm_io.specs.Reserved.{reserved}
use Rattle.trace_stream.proofs.Gathering.{new-room}
use Rattle.trace_stream.proofs.kept.Gathered.new.Goals as goal

pub invariant_of-result : goal.invariant_of-result
invariant_of-result c =
    let all : c.loop.counter ≡ 5 = omega arith in
    let texts : c.loop.fields.items ≡ replicate 5 (reserved 257) = c.loop.invariant ∙ ap (λ k. replicate k (reserved 257)) all in
    (rw texts new-room, omega arith)
