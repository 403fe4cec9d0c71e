-- Writes that the queue takes in, with nothing left to premise.
use Rattle.std.proofs.Common.{refl}
use Rattle.line_writer.specs.Writing.{most_steps}
use Rattle.bank_invariant.{specs.State.is_storing, specs.Writes.{AcceptedWriteLaw, MergedWriteLaw}, proofs.Agreeing.agree_law, proofs.Naming.rows-apart}
use Rattle.bank_invariant.proofs.Taking.{accepted_law, merged_law}

pub accepted_write_law : AcceptedWriteLaw
accepted_write_law n m e row line bytes given h bank array holds above may =
    accepted_law n m e row line bytes given (is_storing bank.running) h bank array holds above may refl (agree_law n m e h bank array holds).storing

pub merged_write_law : MergedWriteLaw
merged_write_law n m e row line old bytes given h bank array holds above may =
    merged_law n m e row line old bytes given (is_storing bank.running) h bank array holds above may refl (agree_law n m e h bank array holds).storing
    (rows-apart bank.kept.shape (most_steps e) bank.rows_below h holds.past holds.rows)
