use Rattle.feistel_map.proofs.Inverse.{there_and_back}
use Rattle.feistel_map.proofs.Feistel.forward.Goals as goal

pub returns-clause-inverse : goal.returns-clause-inverse
returns-clause-inverse c = rw (c.rounds.ensures.value, ← c.self.view_is) (there_and_back _ _ _ _ c.args.line)
