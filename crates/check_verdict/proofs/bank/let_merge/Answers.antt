use Rattle.std.proofs.Common.{sym, ◌∙◌, rules}
use Rattle.std.proofs.lemmas.Fn.{filter_same}
use Rattle.check_verdict.{specs.Joined.stays_beside, specs.declared.members.Member.Member, proofs.Twins.none_leaves}
use Rattle.check_verdict.proofs.bank.let_merge.Goals as goal

pub returns-then-has_mates-clause-items : goal.returns-then-has_mates-clause-items
returns-then-has_mates-clause-items c = filter_same _ (λ (m : Member). stays_beside c.args.line m) _ (λ m r f k. search rules) _ _ c.retain.ensures.filtered

pub returns-else-has_mates-clause-items : goal.returns-else-has_mates-clause-items
returns-else-has_mates-clause-items c = none_leaves c.args.line _ (sym c.requires ∙ c.if-has_mates.false)
