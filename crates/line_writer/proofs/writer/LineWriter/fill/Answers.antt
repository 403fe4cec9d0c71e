use Rattle.std.proofs.Common.{arith, sym, ◌∙◌}
use Rattle.line_writer.proofs.writer.LineWriter.fill.Goals as goal

pub returns-clause-line : goal.returns-clause-line
returns-clause-line g c line h =
    let all = c.filling.ensures.line line (record { seen = h.seen ∙ sym c.seen.ensures; most = h.most; charged = h.charged; entries = h.entries; cleared = h.cleared }) in
    (all.0.writing, all.0.answer, all.1)

pub seen-requires : goal.seen-requires
seen-requires g c = grind arith

pub filling-requires : goal.filling-requires
filling-requires g c = grind arith

pub returns-clause-bytes : goal.returns-clause-bytes
returns-clause-bytes g c = grind arith

pub returns-clause-steps : goal.returns-clause-steps
returns-clause-steps g c = grind arith
