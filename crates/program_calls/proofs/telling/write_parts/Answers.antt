use Rattle.std.proofs.Common.{arith, rules}
use Rattle.std.proofs.lemmas.Grind.{common_steps}
use Rattle.program_calls.proofs.Written.{written-more, written-part}
use Rattle.program_calls.proofs.telling.write_parts.Goals as goal

pub returns-in_err-write_all : goal.returns-in_err-write_all
returns-in_err-write_all g c = record {
  ok = search rules;
  prefix = written-part c.from_residual.result c.args.parts.now c.loop-part.part-index _ _ _ _ c.loop-part-test.true c.loop-part.invariant.0 c.in_err-write_all.ensures.prefix;
  fault = search rules;
  never_falls = first_of (search rules, grind (arith, common_steps));
}

pub loop-part-preserved : goal.loop-part-preserved
loop-part-preserved g c = (
  written-more c.args.parts.now c.loop-part.part-index _ _ _ _ c.loop-part-test.true c.loop-part.invariant.0 c.in_ok-write_all.ensures.ok,
  omega (arith, c.loop-part.invariant.1, c.in_ok-write_all.ensures.never_falls),
)
