use Rattle.std.proofs.Common.{◌≡◌, ◌∙◌, sym, subst, ap}
use Rattle.std.specs.Prelude.{filter, nat_le, not}
use Rattle.check_verdict.specs.{Banks.facts_of, Fitting.twins_in, Members.never, States.{Facts, settled}, declared.members.Member.Member}
use Rattle.result_check.{specs.Watching.{NoneEndsBelow, least_of}, proofs.Watching.{none_below_least, settled_already}}
use Rattle.result_check.proofs.watched.Watched.settle.Goals as goal

pub invariant_of-self : goal.invariant_of-self
invariant_of-self c = record {
  ends =
      subst (λ next. NoneEndsBelow next (facts_of c.settle-first.new.self)) (sym c.min-self-inside.ensures)
      (none_below_least (facts_of c.settle-first.new.self) c.settle-first.result c.first_of.result
      c.settle-first.ensures.first (c.first_of.ensures ∙ ap (least_of never) c.deref-then-self-tick.ensures.value));
  pairs =
      c.twins_left-self-inside.ensures
      ∙ ap (λ ms. twins_in (filter (λ (m : Member). not (nat_le m.end c.args.tick)) ms)) c.deref.ensures.value
      ∙ sym (ap (λ (f : Facts). twins_in f.members) c.settle-first.ensures.facts);
}

pub returns-else-self-tick : goal.returns-else-self-tick
returns-else-self-tick c =
    subst (λ (f : Facts). f ≡ settled c.args.tick f) c.self.view_is
    (settled_already c.args.tick c.self.inside.next c.if-self-tick.false (facts_of c.self.inside.bank) c.self.invariant.ends)
