use Rattle.std.proofs.Common.{◌≡◌, ◌∙◌, ◌++◌, ◌∷◌, [], Some, length, refl, ap, arith}
use Rattle.std.{specs.Prelude.slice_get, proofs.lemmas.Option.slice_get_read}
use Rattle.row_rules.specs.declared.Row.{Row}
use Rattle.verdict_telling.proofs.Tables.{one_more, all_made}
use Rattle.verdict_telling.proofs.table.Goals as goal

pub loop-i-preserved : goal.loop-i-preserved
loop-i-preserved g c =
    let events = c.args.events.now in
    let event = c.index-events-i.result in
    let at : slice_get events c.loop-i.i ≡ Some event = slice_get_read events (length events) c.loop-i.i event refl c.loop-i-test.true c.index-events-i.is in
    one_more events c.args.results.now c.loop-i.i event c.get.result.now c.loop-i.rows.items c.push.new.self.items at c.get.ensures c.loop-i.invariant
    (c.in_ok-push.ensures.items ∙ ap (λ (r : Row g.row.B). c.loop-i.rows.items ++ r ∷ []) c.row_of.ensures)

pub returns : goal.returns
returns g c = all_made c.args.events.now c.args.results.now c.loop-i.i c.loop-i.rows.items c.requires.rows (omega arith) c.loop-i.invariant
