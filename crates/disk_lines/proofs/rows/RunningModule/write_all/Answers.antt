use Rattle.std.proofs.Common.{◌≤◌, rules, arith}
use Rattle.trace_reader.{specs.Events.IsOpFor, proofs.Sizes.op_fits}
use Rattle.module_shape.specs.Limits.{total_of}
use Rattle.disk_lines.proofs.rows.RunningModule.write_all.Goals as goal

pub write_by-requires : goal.write_by-requires
write_by-requires g c =
    let lines = total_of c.args.self.now.module.shape in
    let lawful : IsOpFor lines c.whole_op-op.result = c.whole_op-op.ensures.lawful lines c.requires.within in
    let short : g.row.B ≤ 128 = c.requires.layout.shape.1 in (
      search rules,
      (
        omega (arith, short),
        (omega (arith, short), (op_fits g.row.B short, (c.requires.layout, (c.requires.exists, (c.requires.has, (lawful, c.whole_op-op.ensures.writes)))))),
      ),
    )
