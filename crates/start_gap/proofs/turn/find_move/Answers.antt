use Rattle.start_gap.proofs.FullTurn.{moves_later, moves_sooner}
use Rattle.start_gap.proofs.turn.find_move.Goals as goal

pub returns-then-number-passed : goal.returns-then-number-passed
returns-then-number-passed c =
    moves_later c.args.n c.args.first c.args.line c.args.place c.requires.some_lines c.requires.line_exists c.requires.place_exists c.if-number-passed.true

pub returns-else-number-passed : goal.returns-else-number-passed
returns-else-number-passed c =
    moves_sooner c.args.n c.args.first c.args.line c.args.place c.requires.some_lines c.requires.line_exists c.requires.place_exists c.if-number-passed.false
