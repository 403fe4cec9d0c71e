use Rattle.std.proofs.Common.{◌≡◌, ◌≤◌}
use Rattle.module_prints.proofs.Mapping.{IsMapped}
use Rattle.module_prints.proofs.map.print_map.Given as goal

-- the rows of the lines so far are printed
abbrev pub invariant-loop-line : goal.invariant-loop-line
invariant-loop-line g l =
    IsMapped l.pcm l.line l.text (g.K.Sink.written l.fn.out) (g.K.Sink.written l.out)
    × (g.K.Sink.faults l.fn.out ≤ g.K.Sink.faults l.out) × (l.text.limit ≡ 65536)
