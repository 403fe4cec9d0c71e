use Rattle.std.proofs.Common.{◌<◌, arith}
use Rattle.module_shape.specs.Limits.{total_of}
use Rattle.ghost_list.specs.Items.{newest}
use Rattle.pcm_library.proofs.Lines.{lines-size}
use Rattle.pcm_library.proofs.session.Session.newest.Goals as goal

pub newest-requires : goal.newest-requires
newest-requires g c =
    let inside = c.self.inside in
    let there : c.args.line < total_of c.args.self.now.module_.shape = omega (arith, c.if-line-lines.false, c.lines.ensures) in
    let below : c.args.line < total_of inside.module.shape = rw (← c.self.view_is) at there in
    let size =
    lines-size inside.module (g.A.CellArray.state inside.array) inside.kept (newest inside.asked) inside.off inside.finished c.self.invariant.serving c.self.invariant.ended in
    (omega (arith, c.self.invariant.layout.shape.1), (omega (arith, c.self.invariant.layout.shape.1), (c.self.invariant.layout, (below, size))))
