use Rattle.std.proofs.Common.{◌≡◌, ◌++◌, List, [], ap, ◌∙◌, append-nil}
use Rattle.trace_reader.specs.declared.event.Event.{Event}
use Rattle.trace_gen.proofs.Lawful.{generated_as}
use Rattle.trace_gen.proofs.generator.generate.Goals as goal

pub returns-clause-generated : goal.returns-clause-generated
returns-clause-generated g c =
    let none : c.loop-event.generator ≡ [] = c.in_default.ensures.0 in
    let all = c.loop-event.invariant ∙ ap (λ (rest : List (Event g.row.B)). c.loop-event.events.items ++ rest) none ∙ append-nil c.loop-event.events.items in
    generated_as g.row.B c.args.seed c.args.lines c.args.mix c.loop-event.events.items c.requires.some_lines c.requires.few_lines c.requires.mix all
