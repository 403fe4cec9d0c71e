use Rattle.std.proofs.Common.{◌∙◌, ap, subst}
use Rattle.std.proofs.lemmas.Result.{IfOk-weaker, MatchResult-weaker}
use Rattle.csv.specs.Reading.{default_config, records, strip_bom}
use Rattle.trace_reader.{specs.Records.HasLeft, proofs.PlainRows.{records-feed, strip-feed}}
use Rattle.trace_reader.proofs.trace.read_rest.Goals as goal

pub returns-clause-ok : goal.returns-clause-ok
returns-clause-ok g c =
    IfOk-weaker c.read_rows.result _ _
    (λ v p rest is. p (records default_config rest)
    (subst (HasLeft c.open-reader.result) (ap (λ t. records default_config (strip_bom t)) is ∙ ap (records default_config) (strip-feed rest) ∙ records-feed rest) c.open-reader.ensures))
    c.read_rows.ensures.ok

pub returns-clause-err : goal.returns-clause-err
returns-clause-err g c =
    MatchResult-weaker c.read_rows.result c.read_rows.ensures.err (λ v p. p)
    (λ e p other rest is. p other (records default_config rest)
    (subst (HasLeft c.open-reader.result) (ap (λ t. records default_config (strip_bom t)) is ∙ ap (records default_config) (strip-feed rest) ∙ records-feed rest) c.open-reader.ensures))
