use Rattle.std.proofs.Common.{◌+◌}
use Rattle.line_pages.specs.Tiers.{by_first}
use Rattle.line_pages.proofs.first.FirstYoungPage.count_pulse.Goals as goal
use Rattle.seeded_lines.proofs.YoungLemmas.{pulsed_same}

pub returns-clause-cells : goal.returns-clause-cells
returns-clause-cells g c n = pulsed_same (by_first c.args.self.now) (c.args.self.now.pulses + 1) n
