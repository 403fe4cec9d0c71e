use Rattle.std.proofs.Common.{arith}
use Rattle.end_laws.proofs.Used.{used-same}
use Rattle.pcm_module.proofs.bank_roles.used_in.Goals as goal

pub returns-clause-used : goal.returns-clause-used
returns-clause-used g c = λ end is. rw (c.used.ensures.value, c.remap.ensures.table) (used-same c.args.kept.now c.remap.ensures.in_range end.table is.table)

pub remap-requires : goal.remap-requires
remap-requires g c = grind arith

pub used-requires : goal.used-requires
used-requires g c = grind arith

pub returns-clause-given : goal.returns-clause-given
returns-clause-given g c = grind arith

pub returns-clause-within : goal.returns-clause-within
returns-clause-within g c = grind arith
