use Rattle.std.proofs.Common.{◌≡◌, replicate}
use Rattle.pcm_io.specs.Reserved.{reserved}
use Rattle.trace_stream.proofs.kept.Gathered.new.Given as goal

-- so many empty texts
abbrev pub invariant-loop : goal.invariant-loop
invariant-loop l = l.fields.items ≡ replicate l.counter (reserved 257)
