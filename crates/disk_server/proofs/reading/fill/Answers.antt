use Rattle.std.proofs.Common.{◌-◌, List, ℕ, length, sym, subst, ◌∙◌}
use Rattle.pcm_io.{specs.Taking.Takes, proofs.ByteLemmas.Takes-read}
use Rattle.disk_server.proofs.Filling.{room_more, took_more}
use Rattle.disk_server.proofs.reading.fill.Goals as goal

pub loop-done-preserved : goal.loop-done-preserved
loop-done-preserved g c =
    let done = c.loop-done.done in
    let old = c.loop-done.buffer in
    let piece = c.read.new.buf in
    let n = c.in-Ok.count in
    let was = c.args.source.now in
    let now = c.read.new.self in
    let more = took_more done n (length old - done) old piece c.loop-done.invariant.within c.in-Ok.ensures.bound.0 in
    record {
      within = room_more done n (length old - done) old piece c.loop-done.invariant.within c.in-Ok.ensures.bound.0;
      taken = subst (λ (bytes : List ℕ). Takes (g.S.Source.left was) (g.S.Source.left now) (g.S.Source.taken was) (g.S.Source.taken now) bytes) (sym more)
          (Takes-read _ _ _ _ _ _ _ piece n c.loop-done.invariant.taken c.in-Ok.ensures.bound.0 c.in-Ok.ensures.next.0 c.in-Ok.ensures.counted);
      faults = c.in-Ok.ensures.no_fault ∙ c.loop-done.invariant.faults;
    }
