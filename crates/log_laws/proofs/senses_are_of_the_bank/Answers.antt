use Rattle.log_laws.proofs.Within.{within_law}
use Rattle.log_laws.proofs.senses_are_of_the_bank.Goals as goal

pub returns : goal.returns
returns c = within_law
