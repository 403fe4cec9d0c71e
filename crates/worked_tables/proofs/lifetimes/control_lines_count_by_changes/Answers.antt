use Rattle.std.proofs.Common.{◌*◌, refl}
use Rattle.right_runs.specs.LineWrites.{most_kept}
use Rattle.worked_tables.{specs.Lifetimes.{two_in_array, storing, always}, proofs.Below.each-less}
use Rattle.worked_tables.proofs.lifetimes.control_lines_count_by_changes.Goals as goal

pub returns-clause-bears : goal.returns-clause-bears
returns-clause-bears c = each-less (λ item. 1 * most_kept two_in_array (storing always 24) item) 49 2 refl
