use Rattle.disk_server.proofs.Moving.{then_err}
use Rattle.disk_server.proofs.writing.write_both.Goals as goal

pub returns-clause-prefix : goal.returns-clause-prefix
returns-clause-prefix g c =
    then_err _ _ _ c.args.front.now c.args.bytes.now c.in_ok-write_all.ensures.ok c.write_all-2.result c.write_all-2.ensures.prefix
