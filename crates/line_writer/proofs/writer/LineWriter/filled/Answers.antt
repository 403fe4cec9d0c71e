use Rattle.std.proofs.Common.{ℕ, sym, ap, ◌∙◌, subst, arith}
use Rattle.cell_rows.{specs.Rows.cell, proofs.ByteLemmas.xor_false}
use Rattle.ecp_line.specs.Layout.{Prefix, source_below}
use Rattle.line_writer.proofs.{Going.{wrong-held, fill-phase, writing-fill, lowest-held}, Settling.{filled-wrong, filled-worn, filled-ready}}
use Rattle.line_writer.proofs.writer.LineWriter.filled.Goals as goal

pub returns-in-Some-clause-line : goal.returns-in-Some-clause-line
returns-in-Some-clause-line g c line h =
    let self = c.args.self.now in
    let f = cell line.held in
    let x = c.in-Some.field-0 in
    let phase = fill-phase self line c.requires.phase h.round in
    let low = lowest-held g.row.E self.entries self.bytes line.held c.seen.result.now x (h.round.prog.seen ∙ sym c.seen.ensures) phase.entries (c.in-Some.ensures.some.1) in
    let at = h.stuck (source_below g.row.B f x self.entries) (sym (wrong-held self.prog line h.round.prog (source_below g.row.B f x self.entries))
    ∙ filled-wrong g.row.B g.row.E self.entries self.bytes (cell self.prog.want) (cell self.prog.which) f x phase (c.in-Some.ensures.some.0) low.is) in (
      writing-fill self line c.requires.phase h.round,
      (
        h.settled,
        filled-worn g.row.B g.row.M g.row.E f line.stuck x c.requires.layout (c.in-Some.ensures.some.0)
            (subst (λ (k : ℕ). Prefix g.row.B g.row.M f line.stuck k) c.if-self.true h.round.charged)
            (ap (λ (k : ℕ). line.stuck (source_below g.row.B f x k)) (sym c.if-self.true) ∙ at),
      ),
    )

pub returns-in-Some-2-clause-line : goal.returns-in-Some-2-clause-line
returns-in-Some-2-clause-line g c line h =
    let self = c.args.self.now in
    let f = cell line.held in
    let x = c.in-Some.field-0 in
    let phase = fill-phase self line c.requires.phase h.round in
    let low = lowest-held g.row.E self.entries self.bytes line.held c.seen.result.now x (h.round.prog.seen ∙ sym c.seen.ensures) phase.entries (c.in-Some.ensures.some.1) in
    c.point.ensures.line line (record {
      seen = h.round.prog.seen;
      charged = h.round.charged;
      ready = filled-ready g.row.B g.row.E self.entries self.bytes _ _ f phase (omega arith);
      wrong = low.is;
      lower = λ y l. xor_false _ _ (low.below y l);
      stuck = h.stuck (source_below g.row.B f x self.entries) (sym (wrong-held self.prog line h.round.prog (source_below g.row.B f x self.entries))
          ∙ filled-wrong g.row.B g.row.E self.entries self.bytes (cell self.prog.want) (cell self.prog.which) f x phase (c.in-Some.ensures.some.0) low.is);
    })

pub seen-requires : goal.seen-requires
seen-requires g c = grind arith

pub wrong-requires : goal.wrong-requires
wrong-requires g c = grind arith

pub point-requires : goal.point-requires
point-requires g c = grind arith

pub returns-in-None-clause-line : goal.returns-in-None-clause-line
returns-in-None-clause-line g c = grind arith

pub returns-in-None-clause-bytes : goal.returns-in-None-clause-bytes
returns-in-None-clause-bytes g c = grind arith

pub returns-in-None-clause-steps : goal.returns-in-None-clause-steps
returns-in-None-clause-steps g c = grind arith

pub returns-in-Some-clause-bytes : goal.returns-in-Some-clause-bytes
returns-in-Some-clause-bytes g c = grind arith

pub returns-in-Some-clause-steps : goal.returns-in-Some-clause-steps
returns-in-Some-clause-steps g c = grind arith

pub returns-in-Some-2-clause-bytes : goal.returns-in-Some-2-clause-bytes
returns-in-Some-2-clause-bytes g c = grind arith

pub returns-in-Some-2-clause-steps : goal.returns-in-Some-2-clause-steps
returns-in-Some-2-clause-steps g c = grind arith
