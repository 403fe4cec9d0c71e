use Rattle.std.proofs.Common.{List, [], take, sym, ◌∙◌, ap}
use Rattle.masked_bytes.specs.Masked.{laid}
use Rattle.atomic_sectors.{specs.Lines.{Write, stand}, specs.Recorded.{behind, write_of}, proofs.Recording.behind_more, proofs.Standing.{stand-same, stand-other}}
use Rattle.atomic_sectors.proofs.recorded.RecordedLines.get.Goals.{then-put-line, else-put-line}
use Rattle.atomic_sectors.proofs.recorded.RecordedLines.get.Goals as goal

pub loop-put-preserved : goal.loop-put-preserved
loop-put-preserved g c =
    let puts = c.deref-put-items.result.now in
    let i = c.loop-put.put-index in
    let before = behind [] (take i puts) in
    let w = write_of c.put-item.result in
    let more = ap (λ (ws : List Write). stand g.row.B ws c.args.line) (behind_more puts i c.put-item.result c.loop-put-test.true c.put-item.is) in
    elim c.if-put-line.branch [
      | then-put-line t ↦
          t.bytes-is ∙ t.lay_over.ensures ∙ ap (laid w.bytes w.given) c.loop-put.invariant
          ∙ sym (stand-same g.row.B w before c.args.line t.if-put-line.true) ∙ more
      | else-put-line t ↦ t.bytes-is ∙ c.loop-put.invariant ∙ sym (stand-other g.row.B w before c.args.line t.if-put-line.false) ∙ more
    ]
