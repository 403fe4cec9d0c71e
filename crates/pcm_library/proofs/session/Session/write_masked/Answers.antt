use Rattle.std.proofs.Common.{rules, arith, subst}
use Rattle.trace_reader.{specs.declared.event.EventOp.EventOp, proofs.Sizes.{event_fits, op_fits}}
use Rattle.module_shape.specs.Limits.{total_of}
use Rattle.pcm_library.specs.Serving.{Takes}
use Rattle.pcm_library.proofs.session.Session.write_masked.Goals as goal

pub masked-requires : goal.masked-requires
masked-requires g c = let few = c.has_short_lines.ensures in (omega (arith, few), (omega (arith, few), op_fits g.row.B few))

pub event-requires : goal.event-requires
event-requires g c = (
  search rules,
  (
    event_fits g.row.B c.has_short_lines.ensures,
    c.in-Some.ensures.lawful (total_of c.args.self.now.module_.shape) (omega (arith, c.if-line-lines.false, c.lines.ensures)),
  ),
)

pub returns-clause-takes : goal.returns-clause-takes
returns-clause-takes g c = λ done.
    subst (λ (op : EventOp g.row.B). Takes g.A.CellArray.state (record { tick = c.args.tick; op = op }) c.args.self.now c.event.new.self) c.in-Some.ensures.masks
    (record { asked = c.event.ensures.asked done; serves = c.event.ensures.serves done; taken = c.event.ensures.taken })
