use Rattle.std.proofs.Common.{arith, sym, ◌∙◌}
use Rattle.std.proofs.lemmas.Bool.{and_parts}
use Rattle.cell_rows.specs.Rows.{cell}
use Rattle.line_writer.proofs.{Going.{wrong-held, clear-phase, writing-clear}, Settling.{cleared-all, cleared-worn}}
use Rattle.line_writer.proofs.writer.LineWriter.cleared.Goals as goal

pub returns-in-Some-clause-line : goal.returns-in-Some-clause-line
returns-in-Some-clause-line g c line h mask =
    let self = c.args.self.now in
    let x = c.in-Some.cell in
    let found = c.in-Some.ensures.found.1 in
    let is = sym (mask x) ∙ found.is in
    let phase = clear-phase self line c.requires.phase h.round in (
      writing-clear self line c.requires.phase h.round,
      (
        h.settled,
        cleared-worn g.row.B g.row.E self.entries (cell self.prog.want) (cell self.prog.which) (cell line.held) line.stuck x phase ((and_parts (cell self.prog.which x) _ is).0) (h.stuck x is),
        record { is = is; below = λ k l. sym (mask k) ∙ found.below k l },
      ),
    )

pub returns-in-None-clause-line : goal.returns-in-None-clause-line
returns-in-None-clause-line g c line h mask =
    let self = c.args.self.now in
    let phase = clear-phase self line c.requires.phase h.round in
    let all = c.fill.ensures.line line (record {
      seen = h.round.prog.seen;
      most = h.round.most;
      charged = h.round.charged;
      entries = phase.entries;
      cleared = cleared-all g.row.B g.row.E self.entries (cell self.prog.want) (cell self.prog.which) (cell line.held) phase
          (λ n. wrong-held self.prog line h.round.prog n ∙ sym (mask n) ∙ c.in-None.ensures.none n);
    }) in
    (all.0, all.1)

pub returns-in-None-clause-begun : goal.returns-in-None-clause-begun
returns-in-None-clause-begun g c line h mask none =
    let self = c.args.self.now in
    let phase = clear-phase self line c.requires.phase h.round in
    let all = c.fill.ensures.line line (record {
      seen = h.round.prog.seen;
      most = h.round.most;
      charged = h.round.charged;
      entries = phase.entries;
      cleared = cleared-all g.row.B g.row.E self.entries (cell self.prog.want) (cell self.prog.which) (cell line.held) phase
          (λ n. wrong-held self.prog line h.round.prog n ∙ none n);
    }) in
    all.2

pub lowest-requires : goal.lowest-requires
lowest-requires g c = grind arith

pub fill-requires : goal.fill-requires
fill-requires g c = grind arith

pub returns-in-Some-clause-begun : goal.returns-in-Some-clause-begun
returns-in-Some-clause-begun g c = grind arith

pub returns-in-Some-clause-bytes : goal.returns-in-Some-clause-bytes
returns-in-Some-clause-bytes g c = grind arith

pub returns-in-Some-clause-steps : goal.returns-in-Some-clause-steps
returns-in-Some-clause-steps g c = grind arith

pub returns-in-None-clause-bytes : goal.returns-in-None-clause-bytes
returns-in-None-clause-bytes g c = grind arith

pub returns-in-None-clause-steps : goal.returns-in-None-clause-steps
returns-in-None-clause-steps g c = grind arith
