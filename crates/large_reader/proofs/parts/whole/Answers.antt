use Rattle.std.proofs.Common.{◌≡◌, ◌∙◌, arith}
use Rattle.pcm_image.specs.{Giving.{cursor, head_view}, Reading.{Cursor, bank_at}, declared.Format.TheVariants.Large}
use Rattle.large_reader.{specs.Giving.end_of, proofs.Steady.{head_steady, times_steady, bank_steady}}
use Rattle.large_reader.proofs.parts.whole.Goals as goal

pub rows_of-requires : goal.rows_of-requires
rows_of-requires g c =
    let h = head_view c.in_ok-head.head in
    let begin : Cursor = record { at = 0; left = c.args.bytes.now } in
    let end : end_of (cursor c.in_ok-parts.rest) ≡ end_of begin =
    times_steady (bank_at Large g.row.B h) (bank_steady g.row.B h) c.in_ok-head.head.banks (cursor c.in_ok-head.rest) (c.in_ok-parts.parts.items, cursor c.in_ok-parts.rest) c.in_ok-parts.ensures.gives
    ∙ head_steady g.row.B begin (h, cursor c.in_ok-head.rest) c.in_ok-head.ensures.gives in
    (omega (arith, c.requires.size.few, c.requires.size.checks), (omega (arith, end, c.requires.few), (omega (arith, c.array_lines.ensures.few), (c.requires.size.few, c.requires.size.checks))))
