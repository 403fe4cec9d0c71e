use Rattle.std.proofs.Common.{◌≡◌, ◌+◌, ◌*◌, ◌∙◌, ap}
use Rattle.start_gap.specs.{Rotation.place_after, Slots.slot_at}
use Rattle.pcm_io.specs.Reserved.{appended}
use Rattle.rotation_reports.{specs.MapText.array_lines_of, proofs.Bounds.map_row-is}
use Rattle.rotation_reports.proofs.line_rows.Map.print_row.Goals as goal

pub returns-clause-after : goal.returns-clause-after
returns-clause-after c =
    let same : c.self.inside.options ≡ c.args.self.now = c.self.view_is in
    let place : c.place-place.result ≡ place_after c.args.self.now.lines c.address-address.result.offset c.args.self.now.moves
    = rw (← same) (c.place-place.ensures.after c.self.inside.options.moves c.self.invariant.stands
    ∙ ap (λ n. place_after n c.address-address.result.offset c.self.inside.options.moves) c.self.invariant.rotates) in
    let array : c.array_line-array.result ≡ c.address-address.result.bank * array_lines_of c.args.self.now
    + slot_at c.args.self.now.lines c.address-address.result.region c.place-place.result
    = rw (← same) c.array_line-array.ensures in
    c.push_standing.ensures.after ∙ ap (appended c.args.text.now) (map_row-is c.args.self.now c.args.line _ _ _ c.address-address.ensures.address place array)
