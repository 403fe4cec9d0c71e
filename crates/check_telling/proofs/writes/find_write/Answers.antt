use Rattle.std.proofs.Common.{List, ap, ◌∙◌}
use Rattle.std.proofs.{lemmas.List.Elements.All-same, lemmas.Result.IfOk-weaker}
use Rattle.check_telling.{specs.Standing.{rows_of, IsNumbered}, specs.declared.mates.Numbered.Numbered, proofs.FindsWrites.write_of_all}
use Rattle.check_telling.proofs.writes.find_write.Goals as goal

pub returns : goal.returns
returns g c =
    IfOk-weaker c.bank_write.result _ _
    (λ found is.
    write_of_all c.args.rules.now c.args.banks.now c.args.tick c.args.line c.bank_of-bank.result c.args.before.now c.args.after.now c.deref.result.now c.deref-2.result.now found
    c.bank_of-bank.ensures
    (ap (λ (ms : List (Numbered g.row.B)). rows_of ms) c.deref.ensures.value ∙ c.in_ok-past.ensures.rows)
    (c.deref.ensures.value ∙ c.in_ok-past.ensures.exact)
    (c.deref-2.ensures.value ∙ c.in_ok-later.ensures.exact)
    (All-same (λ one. IsNumbered 0 c.args.before.now one) c.deref.result.now _ c.deref.ensures.value c.in_ok-past.ensures.numbers) is)
    c.bank_write.ensures
