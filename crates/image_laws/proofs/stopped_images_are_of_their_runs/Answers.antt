use Rattle.std.proofs.Common.{true}
use Rattle.image_laws.proofs.Saved.{ImageLaws, saved_law}
use Rattle.image_laws.proofs.stopped_images_are_of_their_runs.Goals as goal

pub returns : goal.returns
returns c =
    let laws : ImageLaws = record {
      by_bank = c.bank_tables_are_those_of_histories.ensures;
      lines = c.lines_have_their_banks.ensures;
      agree = c.kept_state_is_that_of_the_history.ensures;
      leaving = c.histories_leave_the_array.ensures;
    } in
    saved_law laws true
