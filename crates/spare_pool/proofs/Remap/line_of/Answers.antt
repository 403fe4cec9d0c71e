use Rattle.std.proofs.Common.{◌∙◌}
use Rattle.spare_pool.proofs.Lines.{line_by-apart, line_by-within}
use Rattle.spare_pool.proofs.Remap.line_of.Goals as goal

pub returns-clause-within : goal.returns-clause-within
returns-clause-within c = rw c.find_line.ensures (line_by-within c.args.self.now c.args.slot c.requires)

pub returns-clause-apart : goal.returns-clause-apart
returns-clause-apart c = λ other exists same. line_by-apart c.args.self.now c.args.slot other c.requires exists (same ∙ c.find_line.ensures)
