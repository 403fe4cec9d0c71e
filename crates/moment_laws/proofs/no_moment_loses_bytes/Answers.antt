use Rattle.moment_laws.proofs.Along.{moment_law}
use Rattle.moment_laws.proofs.no_moment_loses_bytes.Goals as goal

pub returns : goal.returns
returns c =
    moment_law c.lines_have_their_banks.ensures c.histories_leave_the_array.ensures c.no_answer_is_wrong_meanwhile.ensures
    c.banks_stand_meanwhile.ensures
