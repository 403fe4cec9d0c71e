use Rattle.std.proofs.lemmas.Result.{on_err_weaker}
use Rattle.run_text.proofs.Gathered.{printed-part}
use Rattle.run_text.proofs.room.print_rest.Goals as goal

pub returns-clause-part : goal.returns-clause-part
returns-clause-part g c =
    on_err_weaker c.write_all.result (λ part. λ before whole h. printed-part before _ _ c.args.text.now whole (rw c.bytes-rest.ensures at part) h) c.write_all.ensures.prefix
