use Rattle.check_reader.{specs.Fields.seen, proofs.Shown.{if_none_then, shown_parts}}
use Rattle.check_reader.proofs.outcome.outcome_of.Goals as goal

pub returns-clause-none : goal.returns-clause-none
returns-clause-none g c =
    if_none_then c.outcome_with.result c.outcome_with.ensures.none
    (λ none o may shows. none o (shown_parts c.args.op (seen c.args.fields.now) c.in_ok-tick.tick c.in_ok-place.place c.in_ok-bytes.bytes o c.requires.some_size
    c.in_ok-tick.ensures.some.0 c.in_ok-tick.ensures.some.1 c.in_ok-place.ensures.some.0 c.in_ok-place.ensures.some.1
    c.in_ok-bytes.ensures.some.0 c.in_ok-bytes.ensures.some.1 may shows))
