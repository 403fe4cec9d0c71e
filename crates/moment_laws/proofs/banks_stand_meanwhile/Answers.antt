use Rattle.moment_laws.proofs.Banks.{meanwhile_law}
use Rattle.moment_laws.proofs.banks_stand_meanwhile.Goals as goal

pub returns : goal.returns
returns c = meanwhile_law c.slots_have_their_lines.ensures c.lines_are_kept.ensures c.stored_rows_are_still_there.ensures
