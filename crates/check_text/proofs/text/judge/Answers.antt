use Rattle.std.proofs.Common.{rules, ◌∙◌}
use Rattle.check_text.proofs.Judged.{checkable}
use Rattle.check_text.proofs.text.judge.Goals as goal

pub check-requires : goal.check-requires
check-requires g c =
    let can = checkable c.args.shape.now c.args.seed c.args.events.now c.args.results.now c.as_slice.result.now c.rules-rules.result
    (c.as_slice.ensures.value ∙ c.in_ok-banks.ensures) c.rules-rules.ensures.within c.requires.events c.requires.rows c.requires.one_each c.requires.may_stand in
    search rules
