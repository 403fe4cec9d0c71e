use Rattle.program_calls.proofs.Written.{writes-as}
use Rattle.view_top.proofs.Telling.{other_line, usage_line}
use Rattle.view_top.proofs.fault.tell.Goals as goal

pub returns-in-Usage : goal.returns-in-Usage
returns-in-Usage g c =
    writes-as c.write_all.result _ _ _ (usage_line c.args.fault c.in-Usage.is) (record { ok = c.write_all.ensures.ok; prefix = c.write_all.ensures.prefix; fault = c.write_all.ensures.fault; never_falls = c.write_all.ensures.never_falls })

pub returns-in_default : goal.returns-in_default
returns-in_default g c = writes-as c.tell.result _ _ _ (other_line c.args.fault c.in_default.not-Usage) c.tell.ensures
