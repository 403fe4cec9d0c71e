use Rattle.std.proofs.Common.{◌≡◌, ◌++◌, [], refl}
use Rattle.program_calls.{specs.FaultLines.trace_line, proofs.Written.writes-as}
use Rattle.program_calls.proofs.telling.tell_trace.Goals as goal

pub returns : goal.returns
unfolding trace_line
returns g c =
    let line : c.as_slice.result.now ++ (c.as_bytes-row.result.now ++ (c.as_slice-2.result.now ++ (c.word.result.now ++ (c.as_slice-3.result.now ++ [])))) ≡ trace_line c.args.fault = rw (c.as_slice.ensures, c.as_bytes-row.ensures.value, c.format.ensures.text, c.as_slice-2.ensures, c.word.ensures, c.as_slice-3.ensures) refl in
    writes-as c.write_parts.result _ _ _ line c.write_parts.ensures
