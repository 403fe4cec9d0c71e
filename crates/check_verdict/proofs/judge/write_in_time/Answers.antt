use Rattle.std.proofs.Common.{◌&&◌, sym, ap, ◌∙◌, arith}
use Rattle.std.{specs.Prelude.nat_le, proofs.lemmas.Bool.lt-ltb}
use Rattle.check_verdict.specs.{Ahead.{latest_kept, at_store}, Keeping.write_timely}
use Rattle.check_verdict.proofs.judge.write_in_time.Goals as goal

pub returns-then-arrived-tick : goal.returns-then-arrived-tick
returns-then-arrived-tick g c =
    let from = c.args.arrived in
    let at = c.in-Stored.tick in
    let by = latest_kept c.args.rules.now c.args.keys.now.stores.items c.args.keys.now.reads.items c.args.cuts.now c.args.bank from in
    ap (nat_le at) c.latest_store.ensures
    ∙ ap (λ b. b && nat_le at (by at)) (sym (lt-ltb from at (omega arith)))
    ∙ ap (λ o. write_timely from (at_store by o) o) (sym c.in-Stored.is)
