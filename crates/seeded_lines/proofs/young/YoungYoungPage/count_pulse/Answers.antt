use Rattle.std.proofs.Common.{◌+◌}
use Rattle.seeded_lines.proofs.YoungLemmas.{pulsed_same}
use Rattle.seeded_lines.proofs.young.YoungYoungPage.count_pulse.Goals as goal

pub returns-clause-cells : goal.returns-clause-cells
returns-clause-cells g c n = pulsed_same c.args.self.now (c.args.self.now.pulses + 1) n
