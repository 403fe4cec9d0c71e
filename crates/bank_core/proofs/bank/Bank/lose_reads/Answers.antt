use Rattle.std.proofs.Common.{◌≡◌, ◌∷◌, [], None, arith, refl, ap, ◌∙◌, length, slice_get, length-append}
use Rattle.bank_core.proofs.{Answering.IsBank-drop, Losing.{rows_with, lose-fewer, lose-one, lose-some, lose-none, lose-all}}
use Rattle.bank_core.proofs.bank.Bank.lose_reads.Goals.{in-Some+in-Ok, in_default}
use Rattle.bank_core.proofs.bank.Bank.lose_reads.Goals as goal

pub loop-preserved : goal.loop-preserved
loop-preserved g c =
    let ws = c.loop.self-inside.waiting.items in
    let lost = c.loop.self-inside.lost.items in
    let inv = c.loop.invariant in
    let bank = IsBank-drop g.row.M g.row.E c.loop.self-inside.kept ws _ _ inv.bank in
    let fewer = lose-fewer ws c.loop.counter (length c.self.inside.waiting.items) (omega (arith, c.loop-test.true, c.len-end.ensures.len)) inv.fewer in
    elim c.match-pop_front.branch [
      | in-Some+in-Ok w ↦
          rw (w.self-inside-is, w.in-Ok.ensures.ok, c.pop_front.ensures.items)
          (record {
            kept = inv.kept;
            running = inv.running;
            rows_below = inv.rows_below;
            bank = bank;
            fewer = fewer;
            room = omega (arith, length-append lost (w.in-Some.read.row ∷ []), lose-some ws w.in-Some.read w.in-Some.ensures.value, inv.room);
            rows = lose-one lost ws w.in-Some.read w.in-Some.ensures.value ∙ inv.rows;
          })
      | in_default w ↦
          let no = w.in_default in
          let none : None ≡ slice_get ws 0 = cc in
          let same = lose-none ws none in
          rw (w.self-inside-is, c.pop_front.ensures.items)
          (record {
            kept = inv.kept;
            running = inv.running;
            rows_below = inv.rows_below;
            bank = bank;
            fewer = fewer;
            room = omega (arith, ap (λ ws. length ws) same, inv.room);
            rows = ap (λ ws. rows_with lost ws) same ∙ inv.rows;
          })
    ]

pub loop-init : goal.loop-init
loop-init g c = grind arith

pub invariant_of-self : goal.invariant_of-self
invariant_of-self g c = grind arith

pub unreachable-requires : goal.unreachable-requires
unreachable-requires g c = grind arith

pub unreachable-unreachable : goal.unreachable-unreachable
unreachable-unreachable g c = grind arith

pub loop-smaller : goal.loop-smaller
loop-smaller g c = grind arith

pub returns : goal.returns
returns g c =
    let inv = c.loop.invariant in
    let all = lose-all c.loop.self-inside.waiting.items c.loop.self-inside.lost.items
    (omega (arith, inv.fewer, c.loop-test.false, c.len-end.ensures.len)) in
    rw (← c.self.view_is, inv.kept, inv.running, inv.rows_below, all.0, all.1 ∙ inv.rows) refl
