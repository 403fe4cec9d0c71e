use Rattle.std.proofs.Common.{◌∙◌}
use Rattle.std.proofs.lemmas.Result.{IfOk-weaker, MatchResult-weaker}
use Rattle.trace_reader.proofs.Lawful.{trace_of-lawful}
use Rattle.trace_reader.proofs.trace.parse.Goals as goal

pub returns-in-Some-clause-ok : goal.returns-in-Some-clause-ok
returns-in-Some-clause-ok g c =
    IfOk-weaker c.read_plain.result _ _ (λ v p. c.in-Some.ensures.3 g.row.B c.args.lines ∙ p) c.read_plain.ensures.ok

pub returns-in-Some-clause-events : goal.returns-in-Some-clause-events
returns-in-Some-clause-events g c =
    IfOk-weaker c.read_plain.result _ _ (λ v p. (trace_of-lawful g.row.B c.args.lines c.args.bytes.now v.items c.requires.lines p).0) (returns-in-Some-clause-ok g c)

pub returns-in-Some-clause-err : goal.returns-in-Some-clause-err
returns-in-Some-clause-err g c =
    MatchResult-weaker c.read_plain.result c.read_plain.ensures.err (λ v p. p) (λ e p other. c.in-Some.ensures.3 g.row.B c.args.lines ∙ p other)

pub returns-in-None-clause-events : goal.returns-in-None-clause-events
returns-in-None-clause-events g c =
    IfOk-weaker c.parse_all.result _ _ (λ v p. (trace_of-lawful g.row.B c.args.lines c.args.bytes.now v.items c.requires.lines p).0) c.parse_all.ensures.ok
