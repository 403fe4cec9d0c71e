use Rattle.std.proofs.Common.{◌≡◌, Some, None, arith, rules}
use Rattle.check_reader.{specs.Fields.{seen, fields_of}, specs.ResultRows.IsNoRow, proofs.Hexes.if_none, proofs.Rows.{row_tells, fields_make_row, no_fields}}
use Rattle.check_reader.proofs.row.read_row.Goals as goal

pub returns-in_err-fields-clause-none : goal.returns-in_err-fields-clause-none
returns-in_err-fields-clause-none g c =
    let none : fields_of c.args.bytes.now ≡ None = search rules in
    if_none c.from_residual.result (no_fields {n = g.row.B} c.args.row (c.args.op, c.args.line) c.args.bytes.now (omega arith) (omega arith) none)

pub returns-then-not-has_head-clause-none : goal.returns-then-not-has_head-clause-none
returns-then-not-has_head-clause-none g c = λ outcome rest is.
    let some : fields_of c.args.bytes.now ≡ Some (seen c.in_ok-fields.fields) = search rules in
    let tells = row_tells c.args.row (c.args.op, c.args.line) c.args.bytes.now outcome rest (seen c.in_ok-fields.fields) (omega arith) (omega arith) some is in
    cc (c.has_head.ensures.1 tells.head)

pub returns-in_err-outcome-clause-none : goal.returns-in_err-outcome-clause-none
returns-in_err-outcome-clause-none g c =
    let some : fields_of c.args.bytes.now ≡ Some (seen c.in_ok-fields.fields) = search rules in
    let no_row : IsNoRow g.row.B c.args.row (c.args.op, c.args.line) c.args.bytes.now = λ outcome rest is.
    let tells = row_tells c.args.row (c.args.op, c.args.line) c.args.bytes.now outcome rest (seen c.in_ok-fields.fields) (omega arith) (omega arith) some is in
    c.in_err-outcome.ensures.none outcome is.may tells.shows in
    if_none c.from_residual-in_err-outcome.result no_row

pub returns-clause-some : goal.returns-clause-some
returns-clause-some g c =
    let some : fields_of c.args.bytes.now ≡ Some (seen c.in_ok-fields.fields) = search rules in
    fields_make_row c.args.row (c.args.op, c.args.line) c.args.bytes.now c.in_ok-outcome.outcome (seen c.in_ok-fields.fields) some
    (c.has_head.ensures.0 (search rules)) c.in_ok-outcome.ensures.some.0 c.in_ok-outcome.ensures.some.1
