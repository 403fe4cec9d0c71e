use Rattle.std.proofs.Common.{◌<◌, ◌≡◌, ◌==◌, false, length, get_or, sym, ◌∙◌, arith}
use Rattle.large_reader.{specs.Giving.no_row, proofs.Listing.{found, not_there, other_row, other_not}}
use Rattle.large_reader.proofs.rows.cells_of.Goals.{else-place-rows-via-then-place-rows+else-rows-place, else-place-rows-via-else-place-rows}
use Rattle.large_reader.proofs.rows.cells_of.Goals as goal

pub returns-then-rows-place : goal.returns-then-rows-place
returns-then-rows-place g c =
    sym (found c.args.rows.now 0 c.requires.0 c.place_of-place.result c.args.line _ c.requires.1 c.if-place-rows.true (other_row c.args.rows.now c.place_of-place.result c.args.line _ _ c.if-place-rows.true c.if-rows-place.true))

pub returns-else-place-rows : goal.returns-else-place-rows
returns-else-place-rows g c =
    let place = c.place_of-place.result in
    let other : place < length c.args.rows.now → ((get_or c.args.rows.now place (no_row g.row.B g.row.M)).line == c.args.line) ≡ false =
    elim c.else-place-rows.branch [
      | else-place-rows-via-then-place-rows+else-rows-place w ↦ λ lt. other_not c.args.rows.now place c.args.line (no_row g.row.B g.row.M) _ lt w.if-rows-place.false
      | else-place-rows-via-else-place-rows w ↦ λ lt. absurd (omega (arith, lt, w.if-place-rows.false))
    ] in
    c.zero.ensures.bytes ∙ sym (not_there c.args.rows.now c.requires.0 place c.args.line (no_row g.row.B g.row.M) c.requires.1 c.place_of-place.ensures.below c.place_of-place.ensures.above other)
