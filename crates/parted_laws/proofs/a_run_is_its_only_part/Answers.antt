use Rattle.parted_laws.proofs.OnePart.{one_part_law}
use Rattle.parted_laws.proofs.a_run_is_its_only_part.Goals as goal

pub returns : goal.returns
returns c = one_part_law
