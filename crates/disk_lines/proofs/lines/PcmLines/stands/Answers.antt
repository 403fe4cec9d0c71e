use Rattle.disk_lines.proofs.lines.PcmLines.stands.Goals as goal

pub returns-clause-stands : goal.returns-clause-stands
returns-clause-stands g c = rw (← c.self.view_is) c.self.invariant.stands
