use Rattle.std.proofs.Common.{◌≡◌, ◌==◌, map, lit<}
use Rattle.std.{specs.List.slice_split, specs.Prelude.IfOk, proofs.lemmas.Iterator.Consumers.map_from_collect, proofs.lemmas.Iterator.Splits.YieldsList-from_str_split}
use Rattle.disk_words.proofs.Ticks.{listed-at, listed-begin, split-into}
use Rattle.disk_words.proofs.cuts.listed.Goals as goal

pub loop-piece-init : goal.loop-piece-init
loop-piece-init c =
    let split : IfOk c.collect.result (λ w. map (λ s. s.now) w.items ≡ slice_split (λ b. b == 44) c.args.text.now) =
    map_from_collect _ c.collect.ensures.ran (YieldsList-from_str_split 44 c.args.text.now (lit< tt) c.split.ensures.text c.split.ensures.has_more c.split.ensures.pattern) in
    listed-begin c.args.text.now _ _
    (split-into c.collect.result c.in_ok-pieces.pieces c.deref-piece-items.result.now c.args.text.now c.in_ok-pieces.was c.deref-piece-items.ensures.value split) c.in_ok-ticks.ensures.items

pub loop-piece-preserved : goal.loop-piece-preserved
loop-piece-preserved c =
    rw c.in_ok-push.ensures.items (listed-at _ c.loop-piece.ticks.items c.loop-piece.before c.in-Some.tick c.deref-piece-items.result.now c.loop-piece.piece-index _ c.loop-piece-test.true
    c.loop-piece.invariant c.in-Some.ensures)
