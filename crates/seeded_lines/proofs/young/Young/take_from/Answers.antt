use Rattle.std.proofs.Common.{◌≡◌, ◌+◌, ◌-◌, ◌*◌, ◌<◌, ◌∙◌, ap, arith}
use Rattle.seeded_lines.{specs.Counts.count, specs.Young.changes_in, proofs.LifeLemmas.group_more}
use Rattle.seeded_lines.proofs.young.Young.take_from.Goals as goal

pub loop-group-preserved : goal.loop-group-preserved
loop-group-preserved g c =
    let before = c.loop-group.invariant in
    let group = c.loop-group.group in
    record {
      done = group_more (count c.loop-group.left) _ (λ n. count c.args.left.now n - changes_in c.args.self.now n) group
          (λ k low.
          let within : k < c.loop-index.index = omega arith in
          let from : 8 * group + k ≡ 8 * group + k = omega arith in
          c.set_group.ensures.here k low ∙ c.loop-index.invariant.done k within ∙ ap (λ x. x - changes_in c.args.self.now (8 * group + k)) (before.rest (8 * group + k) (omega arith)))
          c.set_group.ensures.others before.done;
      rest = λ n from. c.set_group.ensures.others n (λ e. absurd (omega arith)) ∙ before.rest n (omega arith);
    }
