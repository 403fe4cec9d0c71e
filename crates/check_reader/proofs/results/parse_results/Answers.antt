use Rattle.std.proofs.Common.{arith, rules, ◌≡◌, ◌≢◌, ◌+◌, ◌++◌, [], false, refl, ap, ◌∙◌, take, length, get_or}
use Rattle.std.{specs.Str.bytes_eq, proofs.lemmas.Bool.Decides.nat_tests}
use Rattle.result_rows.specs.RowText.{header_text}
use Rattle.result_rows.specs.declared.Op.TheVariants as op
use Rattle.check_reader.{specs.ResultRows.{Header, Later}, proofs.Whole.{begins_with, begins_not, has_read_more, fails_here, all_read, fails_behind, no_bytes}}
use Rattle.check_reader.proofs.results.parse_results.Goals as goal

pub returns-in_default-clause-fault : goal.returns-in_default-clause-fault
returns-in_default-clause-fault g c =
    let other : bytes_eq (take (length header_text) c.args.bytes.now) header_text ≡ false = rw c.header.ensures at c.in_default.ensures.cases in
    λ e. Header (begins_not header_text c.args.bytes.now other)

pub returns-in_default-read_row-clause-fault : goal.returns-in_default-read_row-clause-fault
returns-in_default-read_row-clause-fault g c =
    let text : c.args.bytes.now ≡ header_text ++ c.in-Some.behind.now =
    begins_with header_text c.args.bytes.now c.in-Some.behind.now (rw c.header.ensures at c.in-Some.ensures.cases.0) (rw c.header.ensures at c.in-Some.ensures.cases.1) in
    let ask = get_or c.args.of.now c.rows.i (op.Read, 0) in
    let fails = fails_here g.row.B c.args.of.now c.in-Some.behind.now c.rows.rest.now c.rows.results c.rows.i ask (op.Read, 0) c.rows-test.true refl c.rows.invariant
    c.in_default-read_row.ensures.none in
    λ e. Later (c.rows.i + 1) c.in-Some.behind.now text fails

pub rows-preserved : goal.rows-preserved
rows-preserved g c =
    let ask = get_or c.args.of.now c.rows.i (op.Read, 0) in
    rw c.set.ensures (has_read_more g.row.B c.args.of.now c.in-Some.behind.now c.rows.rest.now c.in-Some-read_row.behind.now c.rows.results c.rows.i ask (op.Read, 0)
    c.in-Some-read_row.outcome c.rows-test.true refl c.rows.invariant c.in-Some-read_row.ensures.some)

pub returns-then-is_empty-clause-ok : goal.returns-then-is_empty-clause-ok
returns-then-is_empty-clause-ok g c =
    let text : c.args.bytes.now ≡ header_text ++ c.in-Some.behind.now =
    begins_with header_text c.args.bytes.now c.in-Some.behind.now (rw c.header.ensures at c.in-Some.ensures.cases.0) (rw c.header.ensures at c.in-Some.ensures.cases.1) in
    let none : c.rows.rest.now ≡ [] = no_bytes c.rows.rest.now (grind (arith, nat_tests)) in
    let done = all_read g.row.B c.args.of.now c.in-Some.behind.now c.rows.rest.now c.rows.results c.rows.i (omega arith) c.rows.invariant none in
    record { each = done.0; text = text ∙ ap (λ t. header_text ++ t) done.1 }

pub returns-else-is_empty-clause-fault : goal.returns-else-is_empty-clause-fault
returns-else-is_empty-clause-fault g c =
    let text : c.args.bytes.now ≡ header_text ++ c.in-Some.behind.now =
    begins_with header_text c.args.bytes.now c.in-Some.behind.now (rw c.header.ensures at c.in-Some.ensures.cases.0) (rw c.header.ensures at c.in-Some.ensures.cases.1) in
    let some : c.rows.rest.now ≢ [] = search rules in
    let end : c.rows.i ≡ length c.args.of.now = omega arith in
    let fails = fails_behind g.row.B c.args.of.now c.in-Some.behind.now c.rows.rest.now c.rows.results c.rows.i (omega arith) c.rows.invariant some in
    λ e. Later (length c.args.of.now + 1) c.in-Some.behind.now text (rw end at fails)
