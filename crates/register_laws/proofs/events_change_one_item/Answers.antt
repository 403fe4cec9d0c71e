use Rattle.register_laws.proofs.Changing.{changes_law}
use Rattle.register_laws.proofs.events_change_one_item.Goals as goal

pub returns : goal.returns
returns c = changes_law
