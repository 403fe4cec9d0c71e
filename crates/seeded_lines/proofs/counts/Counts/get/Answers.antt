use Rattle.std.proofs.Common.{◌∙◌, sym, arith}
use Rattle.seeded_lines.proofs.CountLemmas.{count-bits, count-meta}
use Rattle.seeded_lines.proofs.counts.Counts.get.Goals as goal

pub returns-then-index : goal.returns-then-index
returns-then-index g c = c.count_at.ensures ∙ sym (count-bits c.args.self.now c.args.number (omega arith) (omega arith))

pub returns-else-index : goal.returns-else-index
returns-else-index g c = c.count_at-else-index.ensures ∙ sym (count-meta c.args.self.now c.args.number (omega arith) (omega arith))
