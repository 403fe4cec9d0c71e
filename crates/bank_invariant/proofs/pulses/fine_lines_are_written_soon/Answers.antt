use Rattle.bank_invariant.proofs.Fine.{fine_write_law}
use Rattle.bank_invariant.proofs.pulses.fine_lines_are_written_soon.Goals as goal

pub returns : goal.returns
returns c = fine_write_law
