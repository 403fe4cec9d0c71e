use Rattle.std.proofs.Common.{◌≡◌, ◌+◌, ◌-◌, get_or, ◌∙◌, ap, arith, inl}
use Rattle.disk_rules.proofs.Pieces.{patch_in, patch_beside}
use Rattle.disk_bytes.proofs.Laying.{laid_there}
use Rattle.disk_bytes.proofs.copying.fetch_from_line.Goals as goal

pub returns-clause-fetched : goal.returns-clause-fetched
returns-clause-fetched g c i below =
    let from = c.args.from in
    let here : c.args.begin + (from + i - from) ≡ c.args.begin + i = omega arith in
    laid_there c.args.to.now c.copy_from_slice.new.self c.args.line.now from c.args.begin c.args.count _ _
    c.requires.room (omega (arith, c.requires.there, c.told-line)) (omega arith) (omega arith) c.copy_from_slice.ensures.after (from + i)
    ∙ patch_in from (from + c.args.count) (from + i) _ _ (omega arith) (omega (arith, below))
    ∙ ap (λ k. get_or c.args.line.now k 0) here

pub returns-clause-before : goal.returns-clause-before
returns-clause-before g c i below =
    let from = c.args.from in
    laid_there c.args.to.now c.copy_from_slice.new.self c.args.line.now from c.args.begin c.args.count _ _
    c.requires.room (omega (arith, c.requires.there, c.told-line)) (omega arith) (omega arith) c.copy_from_slice.ensures.after i
    ∙ patch_beside from (from + c.args.count) i _ _ (inl below)
