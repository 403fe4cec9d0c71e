use Rattle.std.proofs.Common.{sym, ap, ◌∙◌}
use Rattle.trace_stream.{specs.Kept.Kept, proofs.Steps.{end-ends, end-none}}
use Rattle.trace_stream.proofs.records.Records.finish.Goals as goal

pub returns-then-not-ends_at_end-clause-none : goal.returns-then-not-ends_at_end-clause-none
returns-then-not-ends_at_end-clause-none c = λ no. end-none _ _ _ (sym c.ends_at_end.ensures ∙ c.if-not-ends_at_end.true)

pub returns-clause-found : goal.returns-clause-found
returns-clause-found c = λ yes. end-ends _ _ _ _ (sym c.ends_at_end.ensures ∙ c.if-not-ends_at_end.false) (ap (λ (k : Kept). k.fields) c.end_field.ensures)
