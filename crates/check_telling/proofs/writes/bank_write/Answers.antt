use Rattle.std.proofs.Common.{◌==◌, ◌∙◌, List, [], ap}
use Rattle.std.specs.Prelude.{filter, reverse}
use Rattle.row_rules.specs.{Queueing.{pending, is_refused}, Rows.write_of}
use Rattle.check_telling.{specs.Standing.rows_of, specs.declared.mates.Numbered.Numbered, proofs.Finds.told_long, proofs.FindsWrites.alone_turned, proofs.Sizes.vec_long}
use Rattle.check_telling.proofs.writes.bank_write.Goals as goal

pub returns : goal.returns
returns g c =
    let past = reverse (rows_of c.args.past.now) in
    let ps = pending c.args.tick [] past in
    record {
      finds = record {
        stand = c.in_ok-stand.ensures.rows;
        full_is = ap (λ k. k == c.args.rules.now.writes) (c.len-stands.ensures ∙ vec_long c.in_ok-stand.stand ∙ told_long c.in_ok-stand.stand.items ps c.in_ok-stand.ensures.rows);
        alone_is =
            c.is_alone-alone.ensures
            ∙ ap (λ (ms : List (Numbered g.row.B)). is_refused c.args.tick (rows_of ms) (filter (write_of c.args.line) (rows_of ms))) c.deref.ensures.value
            ∙ ap (λ xs. is_refused c.args.tick xs (filter (write_of c.args.line) xs)) c.in_ok-stand.ensures.rows
            ∙ alone_turned c.args.tick c.args.line ps;
        last_is = c.last_end.ensures;
        stores_are = c.in_ok-stores.ensures;
        reads_are = c.in_ok-reads.ensures;
        bound_is = c.store_bound.ensures;
      };
      stand_numbers = c.in_ok-stand.ensures.numbers;
      before_is = c.first_worn.ensures;
      behind_is = c.first_worn-2.ensures;
      next_is = c.next_accepted.ensures;
    }
