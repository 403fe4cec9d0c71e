use Rattle.end_laws.proofs.Roles.{role_law}
use Rattle.end_laws.proofs.lines_have_one_role.Goals as goal

pub returns : goal.returns
returns c = role_law
