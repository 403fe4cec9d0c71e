use Rattle.std.proofs.Common.{◌≡◌, ◌++◌, Some, drop, map}
use Rattle.command_line.specs.Options.{with_some}
use Rattle.disk_words.specs.Cuts.{listed, rising}
use Rattle.disk_words.proofs.cuts.listed.Given as goal

abbrev pub invariant-loop-piece : goal.invariant-loop-piece
invariant-loop-piece l = listed l.fn.text ≡ with_some (rising l.before (map (λ s. s.now) (drop l.piece-index l.piece-items))) (λ ticks. Some (l.ticks.items ++ ticks))
