use Rattle.std.proofs.Common.{◌≡◌, ◌<◌, ◌∙◌, sym, ap, arith}
use Rattle.std.proofs.lemmas.Bool.{ltb-true}
use Rattle.line_pages.{specs.Begun.pulses_before, specs.Youths.young_at, proofs.PagingLemmas.{told-none, told-some}}
use Rattle.line_pages.proofs.pages.Pages.stays_young.Goals as goal
use Rattle.seeded_lines.specs.declared.young.Young.{Young}

pub returns-in-Some-pulses-clause-few : goal.returns-in-Some-pulses-clause-few
returns-in-Some-pulses-clause-few g c is =
    let p = c.args.self.now in
    let told = told-some (λ (young : Young g.row.B g.row.M). young.pulses) (young_at p.young c.args.line) c.in-Some-pulses.pulses (sym c.in-Some-pulses.is ∙ c.pulses.ensures) in
    let own : pulses_before (young_at p.young c.args.line) ≡ c.in-Some-pulses.pulses =
    ap pulses_before told.1 ∙ sym told.2 in
    let less : c.in-Some-pulses.pulses < p.limit = ltb-true c.in-Some-pulses.pulses p.limit is in
    omega (arith, own, less)

pub returns-in-None-pulses-clause-few : goal.returns-in-None-pulses-clause-few
returns-in-None-pulses-clause-few g c is =
    let p = c.args.self.now in
    let none = told-none (λ (young : Young g.row.B g.row.M). young.pulses) (young_at p.young c.args.line) (sym c.in-None-pulses.is ∙ c.pulses.ensures) in
    let own : pulses_before (young_at p.young c.args.line) ≡ 0 = ap pulses_before none in
    let less : 0 < p.limit = ltb-true 0 p.limit is in
    omega (arith, own, less)
