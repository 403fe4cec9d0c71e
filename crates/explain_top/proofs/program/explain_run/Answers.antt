use Rattle.std.proofs.Common.{◌≢◌, ◌≤◌, inl, inr, refl, ap, arith, rules, Err}
use Rattle.pcm_top.{specs.declared.fault.Fault.TheVariants.Write, proofs.Deciding.{done-low, is_write, told-decided}}
use Rattle.explain_top.proofs.Deciding.{done-decided, fault-decided}
use Rattle.explain_top.proofs.program.explain_run.Goals as goal

pub returns-in-Ok : goal.returns-in-Ok
returns-in-Ok g c =
    let low : c.status.result ≤ 1 = omega (arith, c.status.ensures, done-low c.in-Ok.done) in
    record {
      done = λ _. (c.in-Ok.done, c.in-Ok.ensures.ends.ends.done, c.status.ensures);
      silent = λ _. refl;
      told = λ fault _. absurd (omega arith);
      unwritten = λ fault _. absurd (omega arith);
      broken = λ five. absurd (omega arith);
      unread = search rules;
      usage = search rules;
      too_long = search rules;
      status_is = λ bytes told calm writes tells. done-decided _ _ _ bytes c.in-Ok.done _ c.status.ensures told c.in-Ok.ensures.ends.ends.done;
    }

pub returns-in-Err : goal.returns-in-Err
returns-in-Err g c =
    let fault = c.in-Err.fault in
    record {
      done = λ low. absurd (omega (arith, c.give_up.ensures.statuses.0));
      silent = λ low. absurd (omega (arith, c.give_up.ensures.statuses.0));
      told = search rules;
      unwritten = search rules;
      broken =
          λ five. elim (is_write fault) [
            | inl write ↦
                let r = c.in-Err.ensures.ends.ends.write (ap Err write) in
                inl (r.0, r.1, rw write at c.give_up.ensures.tried)
            | inr other ↦ inr (record {
              fault = fault;
              cause = c.in-Err.ensures.ends.ends.cause other;
              part = c.give_up.ensures.part;
              fails = c.give_up.ensures.broken five other;
              unwritten = c.in-Err.ensures.ends.ends.unwritten other;
            })
          ];
      unread = search rules;
      usage = search rules;
      too_long = search rules;
      status_is =
          λ bytes told calm writes tells.
          let whole : c.give_up.result ≢ 5 =
          λ five. elim (is_write fault) [
            | inl write ↦ writes ((c.in-Err.ensures.ends.ends.write (ap Err write)).1)
            | inr other ↦ tells (c.give_up.ensures.broken five other)
          ] in
          let other : fault ≢ Write = λ write. whole (c.give_up.ensures.write write) in
          fault-decided _ bytes _ (told-decided _ _ bytes fault _ told calm (c.in-Err.ensures.ends.ends.cause other) (c.give_up.ensures.told whole).0);
    }
