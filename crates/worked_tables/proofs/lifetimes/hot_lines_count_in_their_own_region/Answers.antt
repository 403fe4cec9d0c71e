use Rattle.std.proofs.Common.{◌*◌, refl}
use Rattle.lifetime_laws.specs.Lifetime.{most_hot_works}
use Rattle.worked_tables.{specs.Lifetimes.{sixteen_regions, one_hot_line_each, its_first}, proofs.Below.each-less}
use Rattle.worked_tables.proofs.lifetimes.hot_lines_count_in_their_own_region.Goals as goal

pub returns-clause-bears : goal.returns-clause-bears
returns-clause-bears c = each-less (λ region. 1 * most_hot_works sixteen_regions region (its_first region) (one_hot_line_each 16000)) 402 16 refl
