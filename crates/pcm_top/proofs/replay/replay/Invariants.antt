use Rattle.std.proofs.Common.{◌≡◌}
use Rattle.pcm_top.proofs.Replaying.{HasReplayed}
use Rattle.pcm_top.proofs.replay.replay.Given as goal

-- the events so far were handed to the module, and the array has the wear that it had
abbrev pub invariant-loop-i : goal.invariant-loop-i
invariant-loop-i g l =
    HasReplayed l.fn.pcm.shape l.fn.pcm.seed l.events l.i l.pcm (g.A.CellArray.state l.array) l.results
    × ((g.A.CellArray.state l.array).wear ≡ (g.A.CellArray.state l.fn.array).wear)
