use Rattle.std.proofs.Common.{◌+◌}
use Rattle.line_pages.specs.Tiers.{by_later}
use Rattle.line_pages.proofs.later.LaterYoungPage.count_pulse.Goals as goal
use Rattle.seeded_lines.proofs.YoungLemmas.{pulsed_same}

pub returns-clause-cells : goal.returns-clause-cells
returns-clause-cells g c n = pulsed_same (by_later c.args.self.now) (c.args.self.now.pulses + 1) n
