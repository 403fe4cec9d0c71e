use Rattle.std.proofs.Common.{◌≡◌, ◌++◌}
use Rattle.check_reader.{specs.Splitting.header_line, proofs.Begins.{header_cases, header_ends}}
use Rattle.check_reader.proofs.split.begins_with_header.Goals as goal

pub returns-in-Some : goal.returns-in-Some
returns-in-Some c =
    let text : c.args.bytes.now ≡ header_line ++ c.in-Some.behind.now =
    header_cases c.args.bytes.now c.in-Some.behind.now (rw c.as_slice.ensures at c.in-Some.ensures.cases.0) (rw c.as_slice.ensures at c.in-Some.ensures.cases.1) in
    header_ends c.args.bytes.now c.in-Some.behind.now c.ends_line.result text c.ends_line.ensures
