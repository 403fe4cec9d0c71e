use Rattle.std.proofs.Common.{◌≤◌, rules, sym, ◌∙◌, arith}
use Rattle.trace_reader.{specs.Events.IsOpFor, proofs.Sizes.op_fits}
use Rattle.module_shape.specs.Limits.{total_of}
use Rattle.disk_lines.proofs.Making.{lays-none}
use Rattle.disk_lines.proofs.rows.RunningModule.write.Goals as goal

pub returns-then-not-has_some-clause-lays : goal.returns-then-not-has_some-clause-lays
returns-then-not-has_some-clause-lays g c =
    lays-none c.args.self.now.module c.args.self.now.watch.heard c.args.place c.args.bytes.now c.args.given.now c.told-bytes c.told-given (sym c.has_some.ensures ∙ c.if-not-has_some.true)

pub write_by-requires : goal.write_by-requires
write_by-requires g c =
    let lines = total_of c.args.self.now.module.shape in
    let lawful : IsOpFor lines c.write_op-op.result = c.write_op-op.ensures.lawful lines c.requires.within in
    let short : g.row.B ≤ 128 = c.requires.layout.shape.1 in (
      search rules,
      (
        omega (arith, short),
        (omega (arith, short), (op_fits g.row.B short, (c.requires.layout, (c.requires.exists, (c.requires.has, (lawful, c.write_op-op.ensures.writes)))))),
      ),
    )
