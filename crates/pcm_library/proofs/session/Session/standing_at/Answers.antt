use Rattle.std.proofs.Common.{rules, ◌≡◌, ◌<◌, ◌∙◌, ℕ, ap, subst}
use Rattle.module_shape.specs.{Addresses.{array_lines_of, module_of}, Limits.total_of}
use Rattle.right_runs.specs.Banks.{bank_of_line}
use Rattle.run_laws.proofs.Mixing.{bank-exists}
use Rattle.pcm_module.specs.State.{stands_in}
use Rattle.ghost_list.specs.Items.{newest}
use Rattle.pcm_library.specs.{Looking.wear_of_line, Serving.Serving, declared.looking.LineWear.LineWear, declared.looking.Standing.Standing}
use Rattle.pcm_library.proofs.Lines.{in-all, lines-size}
use Rattle.pcm_library.proofs.session.Session.standing_at.Goals as goal

pub wear_at-requires : goal.wear_at-requires
wear_at-requires g c =
    let inside = c.self.inside in
    let shape = inside.module.shape in
    let array = g.A.CellArray.state inside.array in
    let line : ℕ = c.args.line in
    let below : line < total_of shape = rw (← c.self.view_is) at c.requires.exists in
    let size = lines-size inside.module array inside.kept (newest inside.asked) inside.off inside.finished c.self.invariant.serving c.self.invariant.ended in
    let exists = bank-exists shape inside.module.seed c.shape.ensures.in_range line below in
    let within =
    in-all (bank_of_line shape inside.module.seed line) shape.banks (array_lines_of (module_of shape)) c.translate-place.result array.lines exists c.translate-place.ensures.exists size in
    (search rules, subst (λ (s : Serving g.row.B g.row.M g.row.E g.row.A.Denot). c.translate-place.result < (g.A.CellArray.state s.array).lines) c.self.view_is within)

pub returns : goal.returns
returns g c =
    let array = c.args.self.now.array in
    let place = c.translate-place.result in
    let worn : LineWear → Standing = λ wear. record { place = place; wear = wear } in
    let placed : ℕ → Standing = λ place. record { place = place; wear = wear_of_line (g.A.CellArray.state array) (g.A.TellsCells.changes array) place } in
    let stands =
    subst (λ (s : Serving g.row.B g.row.M g.row.E g.row.A.Denot). place ≡ stands_in s.module_ c.args.line) c.self.view_is c.translate-place.ensures.stands in
    ap worn c.wear_at.ensures ∙ ap placed stands
