use Rattle.std.proofs.Common.{ℕ, [], ◌∙◌, refl, replicate, sym, true}
use Rattle.std.proofs.lemmas.List.{length-replicate}
use Rattle.masked_bytes.{specs.Masked.laid, proofs.Layering.length-laid}
use Rattle.disk_lines.proofs.{Masking.{lays-all, lays-some, zero-laid}, Reading.refused-write}
use Rattle.disk_lines.proofs.masks.write_op.Goals as goal

pub returns-then-has_all-clause-lawful : goal.returns-then-has_all-clause-lawful
returns-then-has_all-clause-lawful g c = λ lines there. (there, c.told-bytes)

pub returns-then-has_all-clause-writes : goal.returns-then-has_all-clause-writes
returns-then-has_all-clause-writes g c = record {
  no_cut = refl;
  lays = lays-all c.args.place c.args.bytes.now c.args.given.now c.told-bytes c.told-given (sym c.has_all.ensures ∙ c.if-has_all.true);
  refused = λ tick outcome others is not. refused-write tick c.args.place c.args.bytes.now (replicate g.row.B true) [] outcome is not;
}

pub returns-clause-lawful : goal.returns-clause-lawful
returns-clause-lawful g c =
    let zeros = replicate g.row.B 0 in
    let long = length-replicate {A = ℕ} g.row.B 0 in
    rw c.fill_under.ensures (λ lines there. (
      there,
      record {
        bytes_len = length-laid c.args.bytes.now c.args.given.now zeros ∙ long;
        given_len = c.told-given;
        some = c.requires.some;
        others = zero-laid g.row.B c.args.bytes.now c.args.given.now c.told-bytes;
      },
    ))

pub returns-clause-writes : goal.returns-clause-writes
returns-clause-writes g c =
    let zeros = replicate g.row.B 0 in
    let long = length-replicate {A = ℕ} g.row.B 0 in
    rw c.fill_under.ensures (record {
      no_cut = refl;
      lays = lays-some c.args.place c.args.bytes.now c.args.given.now c.told-bytes c.told-given zeros long;
      refused = λ tick outcome others is not. refused-write tick c.args.place (laid c.args.bytes.now c.args.given.now zeros) c.args.given.now [] outcome is not;
    })
