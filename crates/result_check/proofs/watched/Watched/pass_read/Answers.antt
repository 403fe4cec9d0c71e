use Rattle.std.proofs.Common.{◌∙◌, sym, subst, ap}
use Rattle.std.specs.Prelude.{min}
use Rattle.check_verdict.specs.Banks.{facts_of}
use Rattle.result_check.{specs.Watching.IsWatched, proofs.Watching.watched_read}
use Rattle.result_check.proofs.watched.Watched.pass_read.Goals as goal

pub invariant_of-self-2 : goal.invariant_of-self-2
invariant_of-self-2 g c =
    let next = c.self.inside.next in
    let twins = c.self.inside.twins in
    let behind = facts_of c.pass_read.new.self in
    subst (λ k. IsWatched k twins behind) (sym (c.min-self-inside.ensures ∙ ap (min next) c.read_at.ensures))
    (watched_read next twins (facts_of c.self.inside.bank) behind c.self.invariant c.args.tick c.args.outcome.now c.in_ok-pass_read.ensures.ok)
