use Rattle.pcm_top.proofs.Printable.{are-printable}
use Rattle.pcm_top.proofs.laws.right_runs_can_be_printed.Goals as goal

pub returns : goal.returns
returns c =
    λ n m e raw seed events outcomes array ends shape small lawful size right. record {
      rows = are-printable e raw seed events outcomes array ends c.rows_have_their_own_outcomes.ensures small lawful size right;
      roles = λ bank at exists. c.array_lines_have_one_role.ensures n m e raw seed _ array ends bank at shape right exists;
    }
