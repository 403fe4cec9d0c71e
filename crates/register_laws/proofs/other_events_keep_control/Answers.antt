use Rattle.register_laws.proofs.Staying.{queue_law, stays_law, slots_law}
use Rattle.register_laws.proofs.other_events_keep_control.Goals as goal

pub returns-clause-queue : goal.returns-clause-queue
returns-clause-queue c = queue_law

pub returns-clause-stays : goal.returns-clause-stays
returns-clause-stays c = stays_law

pub returns-clause-slots : goal.returns-clause-slots
returns-clause-slots c = slots_law
