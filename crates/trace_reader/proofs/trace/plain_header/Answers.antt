use Rattle.std.proofs.Common.{◌≡◌, ◌+◌, ◌-◌, ◌==◌, ◌∷◌, false, drop, sym, ap, ◌∙◌, arith, slice_index}
use Rattle.std.proofs.lemmas.Bool.Decides.{nat_tests}
use Rattle.csv.specs.Reading.{default_config, records, strip_bom}
use Rattle.trace_reader.{specs.Plain.{IsPlainRow, fields_in}, proofs.PlainRows.{records-plain, strip-none}, proofs.Traces.header-read}
use Rattle.trace_reader.proofs.trace.plain_header.Goals as goal

pub returns-then-is_plain_header : goal.returns-then-is_plain_header
returns-then-is_plain_header c =
    let bytes = c.args.bytes.now in
    let row = c.in_ok-row.row in
    let plain : IsPlainRow bytes 0 row = c.in_ok-row.ensures in
    let last : row.payload + 1 - 1 ≡ row.payload = omega arith in
    let first : (slice_index bytes 0 == 239) ≡ false = grind (arith, nat_tests) in
    let all : records default_config (strip_bom bytes) ≡ fields_in bytes 0 row ∷ records default_config (drop (row.payload + 1) bytes) =
    ap (records default_config) (strip-none bytes first) ∙ records-plain bytes 0 row plain in (
      omega arith,
      omega (arith, plain.payload.within),
      ap (slice_index bytes) last ∙ plain.payload.ends,
      λ n lines. header-read n lines bytes (fields_in bytes 0 row) (records default_config (drop (row.payload + 1) bytes)) all (sym c.is_plain_header.ensures ∙ c.if-is_plain_header.true),
    )
