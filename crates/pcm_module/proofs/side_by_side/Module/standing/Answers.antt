use Rattle.std.proofs.Common.{◌≡◌, ◌/◌, ◌%◌, ◌<◌, ◌∙◌, ap, subst, sym, arith, ℕ}
use Rattle.bank_shape.specs.declared.BankShape.{BankShape}
use Rattle.start_gap.specs.Rotation.{place_after}
use Rattle.module_shape.specs.{Addresses.{module_of, bank_shape}, declared.raw.RawShape.RawShape}
use Rattle.right_runs.specs.Ends.{place_by_table}
use Rattle.pcm_module.{specs.State.ModuleState, proofs.EndRoles.end_at, proofs.Mapped.{array-of, place-of, region-within, standing-by}}
use Rattle.pcm_module.proofs.side_by_side.Module.standing.Goals as goal

pub region-requires : goal.region-requires
region-requires g c =
    let now = c.args.self.now in
    let same : c.raw.result.now ≡ now.shape = c.raw.ensures.same ∙ ap (λ (o : ModuleState g.row.B g.row.M g.row.E). o.shape) c.self.view_is in
    (omega arith, region-within c.kept-kept.result.now.shape now.shape c.raw.result.now c.place-at.result.bank c.place-at.result.line (rw c.raw.ensures.same c.raw.ensures.in_range) c.kept-kept.ensures.shaped same c.place-at.ensures.line_exists)

pub returns-clause-stands : goal.returns-clause-stands
returns-clause-stands g c ends are =
    let now = c.args.self.now in
    let bank = c.place-at.result.bank in
    let own = c.place-at.result.line in
    let kept = c.kept-kept.result.now in
    let range = c.kept-kept.ensures.in_range in
    let shaped = c.kept-kept.ensures.shaped in
    let is = end_at now ends are bank c.place-at.ensures.bank_exists kept c.kept-kept.ensures.kept in
    let same : c.raw.result.now ≡ now.shape = c.raw.ensures.same ∙ ap (λ (o : ModuleState g.row.B g.row.M g.row.E). o.shape) c.self.view_is in
    let lines : c.raw.result.now.lines ≡ now.shape.lines = ap (λ (raw : RawShape). raw.lines) same in
    let own_lines : kept.shape.lines ≡ now.shape.lines = ap (λ (s : BankShape). s.lines) shaped in
    let within : own / c.raw.result.now.lines < kept.shape.regions =
    region-within kept.shape now.shape c.raw.result.now bank own (rw c.raw.ensures.same c.raw.ensures.in_range) shaped same c.place-at.ensures.line_exists in
    let inside : own / kept.shape.lines < kept.shape.regions = subst (λ (k : ℕ). own / k < kept.shape.regions) (lines ∙ sym own_lines) within in
    let placed : c.place.result ≡ place_after now.shape.lines (own % c.raw.result.now.lines) ((ends bank).moves (own / c.raw.result.now.lines)) =
    place-of kept (ends bank) is now.shape.lines (own / c.raw.result.now.lines) (own % c.raw.result.now.lines) c.place.result c.registers.result.now range own_lines within
    (c.registers.ensures.rotation ∙ ap (λ region. region.rotation) c.region.ensures.region) c.place.ensures.after in
    let stands : c.array_line.result ≡ place_by_table (bank_shape (module_of now.shape) bank) (ends bank).moves (ends bank).table own =
    array-of kept (ends bank) is (bank_shape (module_of now.shape) bank) own c.slot_of.result c.array_line.result shaped inside c.slot_of.ensures.exists c.slot_of.ensures.after c.array_line.ensures.line in
    standing-by now.shape now.seed ends c.args.line bank own c.place.result c.array_line.result c.raw.result.now.lines lines c.place-at.ensures.bank c.place-at.ensures.line placed stands
