use Rattle.std.proofs.Common.{◌≡◌, ℕ, arith, sym, subst, ◌∙◌}
use Rattle.cell_rows.specs.{Device.LineState, Rows.cell, declared.row.Cells.Cells}
use Rattle.ecp_line.specs.Layout.{active, Sound, Prefix}
use Rattle.line_writer.{specs.Phases.IsCleared, specs.Writing.IsInOrder, proofs.Settling.cleared-already}
use Rattle.line_writer.proofs.writer.LineWriter.begin.Goals as goal

in_order : (g : _) (c : goal.After-filling g) (line : LineState g.row.B g.row.M) → line.held ≡ c.args.seen → Sound g.row.B g.row.M g.row.E (cell line.held) line.stuck
    → IsInOrder g.row.E c.args.seen c.active-entries.result line
in_order g c line held sound =
    let w : ℕ = c.active-entries.result in
    let count : active g.row.B g.row.E (cell c.args.seen) ≡ w = sym c.active-entries.ensures.count in
    let none = c.is_none.ensures.none c.if-is_none.true in
    let cleared : IsCleared g.row.B g.row.E (cell c.args.seen) w =
    cleared-already g.row.B g.row.E w (cell c.later-want.result.1) (cell c.args.seen) count c.later-want.ensures.cells (λ n. sym (c.meet.ensures n) ∙ none n) in
    let count_held : active g.row.B g.row.E (cell line.held) ≡ w = subst (λ (h : Cells g.row.B g.row.M). active g.row.B g.row.E (cell h) ≡ w) (sym held) count in
    record {
      seen = held;
      most = c.active-entries.ensures.within;
      charged = subst (λ (k : ℕ). Prefix g.row.B g.row.M (cell line.held) line.stuck k) count_held sound;
      entries = count_held;
      cleared = subst (λ (h : Cells g.row.B g.row.M). IsCleared g.row.B g.row.E (cell h) w) (sym held) cleared;
    }

pub returns-then-is_none-clause-writes : goal.returns-then-is_none-clause-writes
returns-then-is_none-clause-writes g c line held sound = (c.filling.ensures.line line (in_order g c line held sound)).0

pub returns-then-is_none-clause-begun : goal.returns-then-is_none-clause-begun
returns-then-is_none-clause-begun g c line held sound = (c.filling.ensures.line line (in_order g c line held sound)).1

pub later-want-requires : goal.later-want-requires
later-want-requires g c = grind arith

pub active-entries-requires : goal.active-entries-requires
active-entries-requires g c = grind arith

pub new-requires : goal.new-requires
new-requires g c = grind arith

pub status-turn-requires : goal.status-turn-requires
status-turn-requires g c = grind arith

pub advance-writer-requires : goal.advance-writer-requires
advance-writer-requires g c = grind arith

pub returns-clause-writes : goal.returns-clause-writes
returns-clause-writes g c = grind arith

pub returns-clause-begun : goal.returns-clause-begun
returns-clause-begun g c = grind arith

pub returns-clause-bytes : goal.returns-clause-bytes
returns-clause-bytes g c = grind arith

pub returns-clause-steps : goal.returns-clause-steps
returns-clause-steps g c = grind arith

pub meet-requires : goal.meet-requires
meet-requires g c = grind arith

pub is_none-requires : goal.is_none-requires
is_none-requires g c = grind arith

pub filling-requires : goal.filling-requires
filling-requires g c = grind arith

pub returns-then-is_none-clause-bytes : goal.returns-then-is_none-clause-bytes
returns-then-is_none-clause-bytes g c = grind arith

pub returns-then-is_none-clause-steps : goal.returns-then-is_none-clause-steps
returns-then-is_none-clause-steps g c = grind arith
