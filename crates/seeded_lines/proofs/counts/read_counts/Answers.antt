use Rattle.std.proofs.Common.{ℕ, ◌+◌, ◌-◌, ◌*◌, drop, length, take, ◌∙◌, ap, arith, get_or}
use Rattle.std.proofs.lemmas.List.{get_or-take, get_or-drop}
use Rattle.seeded_lines.proofs.CountLemmas.{flat_at}
use Rattle.seeded_lines.proofs.counts.read_counts.Goals as goal

pub returns : goal.returns
returns c i low =
    let from : ℕ = 64 * c.args.block in
    let all = c.as_flattened-all.result.now in
    let rest = length all - from in
    ap (λ xs. get_or xs i 0) c.in-Some.ensures.cases.same
    ∙ get_or-take 64 (take rest (drop from all)) i 0 low ∙ get_or-take rest (drop from all) i 0 (omega arith) ∙ get_or-drop from all i 0
    ∙ ap (λ xs. get_or xs (from + i) 0) c.as_flattened-all.ensures.value ∙ flat_at c.args.rows.now (from + i) c.told-rows
