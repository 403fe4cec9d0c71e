use Rattle.std.proofs.Common.{◌≡◌, ◌+◌, ◌++◌, ◌∷◌, [], take, sym, ap, ◌∙◌, rules}
use Rattle.std.proofs.lemmas.List.{take_more}
use Rattle.masked_bytes.specs.Masked.{laid}
use Rattle.pcm_image.proofs.{Laying.{over, over_none, over_other, over_more, masked_take, masked_at}, standing.lay_entries.Goals.{then-entry-line, else-entry-line}}
use Rattle.pcm_image.proofs.standing.lay_entries.Goals as goal

pub loop-entry-init : goal.loop-entry-init
loop-entry-init g c = over_none g.row.B c.args.bytes.now

pub loop-entry-preserved : goal.loop-entry-preserved
loop-entry-preserved g c =
    let es = c.args.entries.now in
    let i = c.loop-entry.entry-index in
    let e = c.entry-item.result in
    let more : take (i + 1) es ≡ take i es ++ e ∷ [] = rw c.entry-item.is (take_more es i _ c.loop-entry-test.true) in
    elim c.if-entry-line.branch [
      | then-entry-line w ↦
          w.bytes-is ∙ w.lay_over.ensures ∙ ap (λ u. laid e.bytes e.given u) c.loop-entry.invariant
          ∙ sym (over_more (take i es) e c.args.line c.args.bytes.now (masked_take es i c.requires) (rw c.entry-item.is (masked_at es i _ c.loop-entry-test.true c.requires)) (search rules) (search rules))
          ∙ ap (λ xs. over xs c.args.line c.args.bytes.now) (sym more)
      | else-entry-line w ↦
          w.bytes-is ∙ c.loop-entry.invariant
          ∙ sym (over_other (take i es) e c.args.line c.args.bytes.now (search rules))
          ∙ ap (λ xs. over xs c.args.line c.args.bytes.now) (sym more)
    ]
