use Rattle.run_laws.proofs.Finished.{BankLaws}
use Rattle.parted_laws.proofs.Parted.{parted_law}
use Rattle.parted_laws.proofs.parts_are_one_run.Goals as goal

pub returns : goal.returns
returns c =
    let laws : BankLaws = record {
      tables = c.tables_keep_their_laws.ensures;
      places = c.places_keep_their_laws.ensures;
      lines = c.lines_keep_their_law.ensures;
      logs = c.logs_keep_their_laws.ensures;
      room = c.banks_keep_their_room.ensures;
      by_bank = c.bank_tables_are_those_of_histories.ensures;
      served = c.modules_serve_as_their_banks.ensures;
      finds = c.every_row_finds_room.ensures;
      leaving = c.histories_leave_the_array.ensures;
      unused = c.unused_cells_stay_untouched.ensures;
      remapped = c.slots_have_their_lines.ensures;
      gaps = c.registers_follow_stores.ensures;
      kept = c.lines_are_kept.ensures;
      queue = c.queues_follow_rows.ensures;
      still = c.stored_rows_are_still_there.ensures;
    } in
    parted_law laws c.other_lines_do_not_matter.ensures
