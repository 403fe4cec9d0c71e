use Rattle.std.proofs.Common.{◌≡◌, [], ◌∷◌, ◌++◌, ◌+◌, ◌-◌, ◌<◌, ◌∙◌, drop, sym, ap, arith, rules, slice_index, vec_len}
use Rattle.csv.specs.Reading.{default_config, records}
use Rattle.trace_reader.{specs.Plain.{IsPlainRow, fields_in}, specs.Trace.{after_events, rows_from}, proofs.PlainRows.records-plain}
use Rattle.trace_reader.proofs.Traces.{after_none, text-faulty, text-read}
use Rattle.trace_reader.proofs.trace.read_plain.Goals as goal

pub rows-init : goal.rows-init
rows-init g c = record {
  is = after_none g.row.B c.new-events.result.items _ c.new-events.ensures.items;
  some = c.requires.from.0;
  within = c.requires.from.1;
  behind = c.requires.behind;
  few = omega (arith, c.new-events.ensures.len);
}

pub returns-in-Err-clause-err : goal.returns-in-Err-clause-err
returns-in-Err-clause-err g c = λ other.
    let bytes = c.args.bytes.now in
    let row = c.in-Some.row in
    let plain : IsPlainRow bytes c.rows.at row = c.in-Some.ensures in
    text-faulty g.row.B c.args.lines (rows_from g.row.B c.args.lines 1 0 (records default_config (drop c.args.from bytes))) c.rows.events.items c.rows.number c.rows.before
    (fields_in bytes c.rows.at row) (records default_config (drop (row.payload + 1) bytes)) c.in-Err.kind
    (c.rows.invariant.is ∙ ap (λ rows. after_events c.rows.events.items (rows_from g.row.B c.args.lines c.rows.number c.rows.before rows)) (records-plain bytes c.rows.at row plain))
    (omega arith) (sym c.in-Err.ensures)

pub rows-preserved : goal.rows-preserved
rows-preserved g c =
    let bytes = c.args.bytes.now in
    let row = c.in-Some.row in
    let plain : IsPlainRow bytes c.rows.at row = c.in-Some.ensures in
    let pushed : c.push.new.self.items ≡ c.rows.events.items ++ (c.in-Ok.event ∷ []) = search rules in
    let short : vec_len c.push.new.self < c.rows.number + 1 = search rules in
    let last : row.payload + 1 - 1 ≡ row.payload = omega arith in
    record {
      is =
          rw pushed (text-read g.row.B c.args.lines (rows_from g.row.B c.args.lines 1 0 (records default_config (drop c.args.from bytes))) c.rows.events.items c.rows.number c.rows.before
          (fields_in bytes c.rows.at row) (records default_config (drop (row.payload + 1) bytes)) c.in-Ok.event
          (c.rows.invariant.is ∙ ap (λ rows. after_events c.rows.events.items (rows_from g.row.B c.args.lines c.rows.number c.rows.before rows)) (records-plain bytes c.rows.at row plain))
          (omega arith) (sym c.in-Ok.ensures));
      some = omega arith;
      within = omega (arith, plain.payload.within);
      behind = ap (slice_index bytes) last ∙ plain.payload.ends;
      few = short;
    }
