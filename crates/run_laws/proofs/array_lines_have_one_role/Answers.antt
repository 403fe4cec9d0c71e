use Rattle.run_laws.proofs.Roles.{roles_law}
use Rattle.run_laws.proofs.array_lines_have_one_role.Goals as goal

pub returns : goal.returns
returns c = roles_law c.lines_have_one_role.ensures
