use Rattle.std.proofs.Common.{[], ℕ, ◌++◌, Option, List, ◌&&◌, ◌||◌, refl, arith, ap, ◌∙◌}
use Rattle.std.{specs.List.{list_all, list_any}, specs.Prelude.reverse, proofs.lemmas.List.{length-map, length-reverse}}
use Rattle.row_rules.specs.{Queueing.{next_store, waiting}, Rows.write_of, declared.Row.Row}
use Rattle.check_telling.specs.{Standing.{first_at, row_of, rows_of, tick_at}, Steps.{is_ahead, leaves_later}, declared.mates.Numbered.Numbered}
use Rattle.check_telling.proofs.{Finds.{cut_at, last_below, waiting_few, told_long, grounds_found}, Sizes.{numbered_fits, vec_long}}
use Rattle.check_telling.proofs.grounds.bank_grounds.Goals as goal

pub earliest-from-requires-clause-last : goal.earliest-from-requires-clause-last
earliest-from-requires-clause-last g c = last_below (rows_of c.args.past.now) c.last_read-last.result c.requires.brief c.last_read-last.ensures

pub bound-by-requires : goal.bound-by-requires
bound-by-requires g c =
    let past = reverse (rows_of c.args.past.now) in
    let told = told_long c.in_ok-wait.wait.items (waiting c.args.tick [] past) c.in_ok-wait.ensures.rows in
    let waits = c.len-waits.ensures ∙ vec_long c.in_ok-wait.wait in
    let few = waiting_few c.args.tick [] past in
    let turned = length-reverse (rows_of c.args.past.now) in
    let rows = length-map c.args.past.now row_of in
    let most = c.requires.few in
    (numbered_fits g.row.B c.requires.small, (c.requires.limits, (c.requires.tick, (omega (arith, told, waits, few, turned, rows, most), waits ∙ told))))

pub returns : goal.returns
returns g c =
    let past = reverse (rows_of c.args.past.now) in
    record {
      grounds =
          grounds_found c.args.rules.now c.args.tick c.args.line c.args.newest.bytes past (rows_of c.args.later.now) c.in_ok-stand.stand.items c.in_ok-wait.wait.items
          c.cover-given.result c.next_store-next.result c.last_read-last.result (tick_at c.first_cut-cut.result) c.has_all-covered.result c.is_at_head-at_head.result
          c.len-waits.result c.earliest-from.result c.bound-by.result c.in_ok-taken.taken.items
          c.cover-given.ensures c.has_all-covered.ensures c.in_ok-stand.ensures.rows c.next_store-next.ensures
          (c.is_at_head-at_head.ensures
          ∙ ap (λ (ms : List (Numbered g.row.B)). list_any (write_of c.args.line) (rows_of ms) && list_all (λ (q : Row g.row.B). write_of c.args.line q || leaves_later c.next_store-next.result q.outcome) (rows_of ms))
          c.deref.ensures.value)
          c.in_ok-wait.ensures.rows (c.len-waits.ensures ∙ vec_long c.in_ok-wait.wait) c.last_read-last.ensures c.earliest-from.ensures c.bound-by.ensures.value (ap tick_at c.first_cut-cut.ensures ∙ cut_at c.args.later.now) c.in_ok-taken.ensures;
      newest_is = refl;
      stand = c.in_ok-stand.ensures.rows;
      wait = c.in_ok-wait.ensures.rows;
      stand_numbers = c.in_ok-stand.ensures.numbers;
      wait_numbers = c.in_ok-wait.ensures.numbers;
      ahead_is =
          c.ahead-before_it.ensures
          ∙ ap (λ (o : Option ℕ). first_at (is_ahead c.args.line o) c.deref-2.result.now) c.next_store-next.ensures
          ∙ ap (first_at (is_ahead c.args.line (next_store c.args.tick c.args.line (past ++ rows_of c.args.later.now)))) c.deref-2.ensures.value;
      delay_is = c.delay-busy.ensures.value;
      cut_is = c.first_cut-cut.ensures;
    }
