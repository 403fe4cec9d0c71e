use Rattle.trace_stream.specs.Asked.{events_in}
use Rattle.row_stream.proofs.Each.{each-told}
use Rattle.row_stream.proofs.laws.each_row_is_told.Goals as goal

pub returns : goal.returns
returns c = λ n m e raw seed off asked module_ array places told once ended.
    each-told e raw seed off (events_in asked) places told array ended.ends ended.counted once ended.right
