use Rattle.std.proofs.Common.{◌∙◌, List, length, sym, subst, ap, arith}
use Rattle.module_shape.specs.Limits.{total_of}
use Rattle.trace_reader.specs.{Events.AreEventsFor, declared.event.Event.Event}
use Rattle.trace_reader.proofs.{Lawful.lawful-first, Sizes.op_fits}
use Rattle.drawn_parts.{specs.Parts.home_by, proofs.Picking.{for-left, lawful-rest}}
use Rattle.drawn_parts.proofs.next_for.Goals as goal

pub has-requires : goal.has-requires
has-requires g c =
    let lawful = c.events.invariant.lawful c.requires.lawful.0 c.requires.lawful.1 in
    let first = lawful-first (total_of c.args.shape.now) c.requires.lawful.0 c.in-Some.event c.next_event.new.self
    (subst (λ (events : List (Event g.row.B)). AreEventsFor (total_of c.args.shape.now) c.requires.lawful.0 events) c.in-Some.ensures lawful) in
    (op_fits g.row.B c.requires.small, (c.requires.network, first.0.op))

pub returns-then-has-clause-lawful : goal.returns-then-has-clause-lawful
returns-then-has-clause-lawful g c = λ before lawful.
    lawful-rest (total_of c.args.shape.now) before c.events.generator c.next_event.new.self c.in-Some.event c.in-Some.ensures
    (c.events.invariant.lawful before lawful)

pub events-preserved : goal.events-preserved
events-preserved g c = record {
  same =
      c.events.invariant.same
      ∙ for-left (home_by c.args.feistel.now c.args.shape.now) c.args.banks c.events.generator c.next_event.new.self c.in-Some.event c.in-Some.ensures
      (sym c.has.ensures ∙ c.if-has.false);
  fewer = let size = ap (λ (events : List (Event g.row.B)). length events) c.in-Some.ensures in omega (arith, size, c.events.invariant.fewer);
  lawful = λ before lawful.
      lawful-rest (total_of c.args.shape.now) before c.events.generator c.next_event.new.self c.in-Some.event c.in-Some.ensures
      (c.events.invariant.lawful before lawful);
}
