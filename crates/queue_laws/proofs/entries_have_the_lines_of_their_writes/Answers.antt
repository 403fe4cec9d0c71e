use Rattle.queue_laws.proofs.Owned.{entry_line_law}
use Rattle.queue_laws.proofs.entries_have_the_lines_of_their_writes.Goals as goal

pub returns : goal.returns
returns c = entry_line_law
