use Rattle.std.proofs.Common.{inl, inr, refl, ap, arith, rules, Err}
use Rattle.pcm_top.proofs.Deciding.{is_write}
use Rattle.view_top.proofs.program.view_run.Goals as goal

pub returns-in-Ok : goal.returns-in-Ok
returns-in-Ok g c = record {
  done = λ _. (c.in-Ok.ensures.ends.done, refl);
  told = λ fault _. absurd (omega (arith, fault, c.status.ensures));
  broken = λ five. absurd (omega (arith, five, c.status.ensures));
  some = inl c.status.ensures;
  usage = search rules;
  too_long = search rules;
}

pub returns-in-Err : goal.returns-in-Err
returns-in-Err g c =
    let fault = c.in-Err.fault in
    record {
      done = λ zero. absurd (omega (arith, zero, c.give_up.ensures.statuses.0));
      told = search rules;
      broken =
          λ five. elim (is_write fault) [
            | inl write ↦
                let r = c.in-Err.ensures.ends.write (ap Err write) in
                inl (r.0, r.1, rw write at c.give_up.ensures.tried)
            | inr other ↦ inr (record {
              fault = fault;
              cause = c.in-Err.ensures.ends.cause other;
              part = c.give_up.ensures.part;
              fails = c.give_up.ensures.broken five other;
              unwritten = c.in-Err.ensures.ends.unwritten other;
            })
          ];
      some = inr c.give_up.ensures.statuses;
      usage = search rules;
      too_long = search rules;
    }
