use Rattle.std.proofs.Common.{List, arith, ap, ◌∙◌}
use Rattle.std.proofs.{lemmas.List.Elements.All-same, lemmas.Result.IfOk-weaker}
use Rattle.check_verdict.specs.Verdicts.{bank_in}
use Rattle.check_telling.{specs.Standing.{rows_of, IsNumbered}, specs.declared.mates.Numbered.Numbered, proofs.Finds.{past_brief, past_few, told_of_all}}
use Rattle.check_telling.proofs.Sizes.{grounds_fits, newest_fits, numbered_fits}
use Rattle.check_telling.proofs.grounds.find_grounds.Goals as goal

pub bank_grounds-requires : goal.bank_grounds-requires
bank_grounds-requires g c =
    let rows = ap (λ (ms : List (Numbered g.row.B)). rows_of ms) c.deref.ensures.value ∙ c.in_ok-past.ensures.rows in
    let most = c.requires.few in
    let few = past_few (bank_in c.args.banks.now) c.bank_of-bank.result 400000 c.args.before.now c.deref.result.now rows (omega (arith, most)) in
    let brief = past_brief (bank_in c.args.banks.now) c.bank_of-bank.result c.args.before.now c.deref.result.now rows c.requires.brief in
    let small = c.requires.small in
    (newest_fits g.row.B small, (numbered_fits g.row.B small, (grounds_fits g.row.B small, (small, (few, (c.requires.limits, (brief, c.requires.tick)))))))

pub returns : goal.returns
returns g c =
    IfOk-weaker c.bank_grounds.result _ _
    (λ found is.
    told_of_all c.args.rules.now c.args.banks.now c.args.tick c.args.line c.bank_of-bank.result c.args.before.now c.args.after.now c.find_newest-newest.result c.deref.result.now c.deref-2.result.now found
    c.bank_of-bank.ensures
    (ap (λ (ms : List (Numbered g.row.B)). rows_of ms) c.deref.ensures.value ∙ c.in_ok-past.ensures.rows)
    (ap (λ (ms : List (Numbered g.row.B)). rows_of ms) c.deref-2.ensures.value ∙ c.in_ok-later.ensures.rows)
    (c.deref-2.ensures.value ∙ c.in_ok-later.ensures.exact)
    (All-same (λ one. IsNumbered 0 c.args.before.now one) c.deref.result.now _ c.deref.ensures.value c.in_ok-past.ensures.numbers)
    c.find_newest-newest.ensures.bytes c.find_newest-newest.ensures.givers is)
    c.bank_grounds.ensures
