use Rattle.std.proofs.Common.{sym, ◌∙◌, arith}
use Rattle.std.proofs.lemmas.Result.{IfOk-weaker, MatchResult-weaker}
use Rattle.csv.specs.{Reading.{default_config, records, strip_bom}, Records.fields_of}
use Rattle.trace_reader.{specs.Trace.rows_from, proofs.Traces.{after_none, header-missing, header-wrong, header-read}}
use Rattle.trace_reader.proofs.trace.parse_all.Goals.{then-not-branch-via-then-not-branch, then-not-branch-via-else-not-branch+then-not-is_header_row}
use Rattle.trace_reader.proofs.trace.parse_all.Goals as goal

pub returns-then-not-branch-clause-err : goal.returns-then-not-branch-clause-err
returns-then-not-branch-clause-err g c =
    let all = records default_config (strip_bom c.args.bytes.now) in
    let found = c.in_ok-next_row.ensures.found all c.open-reader.ensures in
    λ other. elim c.then-not-branch.branch [
      | then-not-branch-via-then-not-branch w ↦ header-missing g.row.B c.args.lines c.args.bytes.now (rw w.if-not-branch.true at found)
      | then-not-branch-via-else-not-branch+then-not-is_header_row w ↦
          let some = rw w.if-not-branch.false at found in
          header-wrong g.row.B c.args.lines c.args.bytes.now (fields_of c.next_row.new.row) some.0 some.1 (sym w.is_header_row.ensures ∙ w.if-not-is_header_row.true)
    ]

pub read_rows-requires : goal.read_rows-requires
read_rows-requires g c =
    let all = records default_config (strip_bom c.args.bytes.now) in
    let some = rw c.if-not-branch.false at (c.in_ok-next_row.ensures.found all c.open-reader.ensures) in
    (omega (arith, c.requires.small), (c.requires.lines, (c.requires.small, ((some.0, some.2), (omega arith, (omega (arith, c.new.ensures.len), omega arith))))))

pub returns-clause-ok : goal.returns-clause-ok
returns-clause-ok g c =
    let all = records default_config (strip_bom c.args.bytes.now) in
    let some = rw c.if-not-branch.false at (c.in_ok-next_row.ensures.found all c.open-reader.ensures) in
    let is = header-read g.row.B c.args.lines c.args.bytes.now (fields_of c.next_row.new.row) some.0 some.1 (sym c.is_header_row.ensures ∙ c.if-not-is_header_row.false) in
    IfOk-weaker c.read_rows.result _ _ (λ v p. is ∙ after_none g.row.B c.new.result.items (rows_from g.row.B c.args.lines 1 0 some.0) c.new.ensures.items ∙ p some.0 some.2) c.read_rows.ensures.ok

pub returns-clause-err : goal.returns-clause-err
returns-clause-err g c =
    let all = records default_config (strip_bom c.args.bytes.now) in
    let some = rw c.if-not-branch.false at (c.in_ok-next_row.ensures.found all c.open-reader.ensures) in
    let is = header-read g.row.B c.args.lines c.args.bytes.now (fields_of c.next_row.new.row) some.0 some.1 (sym c.is_header_row.ensures ∙ c.if-not-is_header_row.false) in
    MatchResult-weaker c.read_rows.result c.read_rows.ensures.err (λ v p. p) (λ e p other. is ∙ after_none g.row.B c.new.result.items (rows_from g.row.B c.args.lines 1 0 some.0) c.new.ensures.items ∙ p other some.0 some.2)
