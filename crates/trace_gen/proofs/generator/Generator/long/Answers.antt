use Rattle.std.proofs.Common.{◌≡◌, ◌-◌, ◌∙◌, ap, arith}
use Rattle.trace_gen.specs.Generated.{events_drawn, generated, words_left}
use Rattle.trace_gen.proofs.generator.Generator.long.Goals as goal

pub returns : goal.returns
unfolding generated
returns g c =
    let all : c.args.mix.rows - 0 ≡ c.args.mix.rows = omega arith in
    ap (λ rows. events_drawn g.row.B c.args.lines c.args.mix rows 0 0 (words_left c.seed_from_u64.result)) all
    ∙ ap (λ state. events_drawn g.row.B c.args.lines c.args.mix c.args.mix.rows 0 0 (words_left state)) c.seed_from_u64.ensures
