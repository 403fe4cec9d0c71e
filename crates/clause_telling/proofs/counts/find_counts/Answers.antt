use Rattle.std.proofs.Common.{List, length, ap, ◌+◌, ◌∙◌, arith}
use Rattle.check_verdict.specs.Verdicts.{bank_in}
use Rattle.check_telling.{specs.Standing.rows_of, specs.declared.mates.Numbered.Numbered, proofs.Sizes.numbered_fits}
use Rattle.clause_telling.proofs.Counted.{counts_of, mates_few}
use Rattle.clause_telling.proofs.counts.find_counts.Goals as goal

pub count-requires : goal.count-requires
count-requires g c =
    let first = ap length (c.deref.ensures.value ∙ c.in_ok-past-in-Stored.ensures.exact) in
    let second = ap length (c.deref-in-Stored.ensures.value ∙ c.in_ok-later-in-Stored.ensures.exact) in
    let one = mates_few (bank_in c.args.banks.now) c.bank_of-bank.result 0 c.args.before.now in
    let two = mates_few (bank_in c.args.banks.now) c.bank_of-bank.result (length c.args.before.now + 1) c.args.after.now in
    let few = c.requires.few in
    (numbered_fits g.row.B c.requires.small, (c.requires.limits, (omega (arith, first, second, one, two, few), (c.requires.tick, c.if-tick-at.true))))

pub returns-in_ok-later-in-Stored : goal.returns-in_ok-later-in-Stored
returns-in_ok-later-in-Stored g c u place bytes given is =
    counts_of c.args.rules.now c.args.banks.now c.args.tick c.args.line c.bank_of-bank.result c.in-Stored.at c.in-Stored.place u place bytes given c.args.outcome.now c.args.before.now c.args.after.now
    c.deref.result.now c.deref-in-Stored.result.now c.count.result c.bank_of-bank.ensures
    (ap (λ (ms : List (Numbered g.row.B)). rows_of ms) c.deref.ensures.value ∙ c.in_ok-past-in-Stored.ensures.rows)
    (ap (λ (ms : List (Numbered g.row.B)). rows_of ms) c.deref-in-Stored.ensures.value ∙ c.in_ok-later-in-Stored.ensures.rows) c.in-Stored.is is
    (c.count.ensures c.args.line c.in-Stored.place bytes given)
