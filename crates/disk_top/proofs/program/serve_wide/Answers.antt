use Rattle.disk_top.proofs.program.serve_wide.Goals as goal

pub returns-clause-served : goal.returns-clause-served
returns-clause-served g c = c.in_ok-ended.ensures.served c.args.job.cuts.items c.in_ok-lines.ensures.new
