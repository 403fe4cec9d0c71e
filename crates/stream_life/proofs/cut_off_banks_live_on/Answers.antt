use Rattle.stream_life.proofs.Unworn.{cut_off_law}
use Rattle.stream_life.proofs.cut_off_banks_live_on.Goals as goal

pub returns : goal.returns
returns c =
    cut_off_law c.hot_lines_are_spread.ensures c.spared_lines_are_unworn.ensures c.spared_controls_are_unworn.ensures
    c.unworn_banks_take_all.ensures
