use Rattle.std.proofs.Common.{◌≡◌, ◌-◌, ◌++◌, [], ◌∷◌, length, Some, sym, ap, ◌∙◌, rules}
use Rattle.std.specs.Prelude.{slice_get, take}
use Rattle.check_verdict.{specs.Fitting.{twins_in, joins_well, in_order}, proofs.Fits.{order_split, last_split}}
use Rattle.check_verdict.proofs.queue.in_order.Goals as goal

pub joins_well-requires : goal.joins_well-requires
joins_well-requires c =
    c.requires ∙ ap twins_in (sym (last_split c.args.members.now c.in-Some.newest.now c.in-Some.ensures.value))

pub returns-in-Some : goal.returns-in-Some
returns-in-Some c =
    let all = c.args.members.now in
    let newest = c.in-Some.newest.now in
    let others = take (length all - 1) all in
    let is : Some newest ≡ slice_get all (length all - 1) = c.in-Some.ensures.value in
    let whole : others ++ newest ∷ [] ≡ all = last_split all newest is in
    let start : c.joins_well.result ≡ joins_well all newest others = search rules in
    start ∙ ap (λ ms. joins_well ms newest others) (sym whole) ∙ order_split others newest ∙ ap in_order whole
