use Rattle.std.proofs.Common.{◌≡◌, ◌≤◌, refl, sym, ap, ◌∙◌, subst, arith, rules}
use Rattle.module_shape.specs.Limits.{IsShape, IsSmall}
use Rattle.text_printer.proofs.Ending.{on_err_any}
use Rattle.trace_reader.proofs.Sizes.{event_fits}
use Rattle.pcm_top.{specs.Images.senses_for, proofs.Making.{can-print, ready-itself, run-part, run-written}, proofs.Saving.{has-image, leaves-with, right-now}}
use Rattle.pcm_top.proofs.run.play.Goals as goal
use Rattle.command_line.specs.declared.job.Print.TheVariants.{Image}
use Rattle.module_prints.specs.Images.{WritesRows}

pub print_run-requires : goal.print_run-requires
print_run-requires g c =
    let job = c.args.job.now in
    let events = c.args.events.now in
    let shape : c.replay.new.pcm.shape ≡ job.shape = c.replay.ensures.shape ∙ c.requires.may_play.taken.ready.shape in
    let seeded : c.replay.new.pcm.seed ≡ job.seed = c.replay.ensures.seeded ∙ c.requires.may_play.taken.ready.seeded in
    let can =
    can-print job (g.A.CellArray.state c.replay.new.array) events c.replay.new.results c.replay.new.pcm shape seeded c.replay.ensures.played.one_each c.replay.ensures.right
    c.right_runs_can_be_printed.ensures c.requires.may_play.asked.shape c.requires.may_play.asked.small c.requires.may_play.lawful in (
      omega arith,
      (
        event_fits g.row.B c.requires.layout.shape.1,
        (
          omega arith,
          (
            c.requires.layout,
            (
              c.requires.may_play.taken.roomy,
              (
                c.requires.may_play.rows,
                record { printable = can.rows; seed = sym seeded; shape = subst IsShape (sym shape) c.requires.may_play.asked.shape; image = has-image c.replay.new.pcm events c.replay.new.results (g.A.CellArray.state c.replay.new.array) (subst IsSmall (sym shape) c.requires.may_play.asked.small) c.replay.ensures.played; played = c.replay.ensures.played; size = c.replay.ensures.right.2.size },
              ),
            ),
          ),
        ),
      ),
    )

pub replay-requires : goal.replay-requires
replay-requires g c = (
  omega arith,
  (
    event_fits g.row.B c.requires.layout.shape.1,
    (
      omega arith,
      (
        c.requires.layout,
        (
          ready-itself _ _ _ _ _ _ _ refl c.requires.may_play.taken.ready,
          (rw (c.requires.may_play.taken.ready.shape) c.requires.may_play.lawful, c.requires.may_play.rows),
        ),
      ),
    ),
  ),
)

pub returns-in_err-print_run : goal.returns-in_err-print_run
returns-in_err-print_run g c =
    let job = c.args.job.now in
    let events = c.args.events.now in
    let shape : c.replay.new.pcm.shape ≡ job.shape = c.replay.ensures.shape ∙ c.requires.may_play.taken.ready.shape in
    let seeded : c.replay.new.pcm.seed ≡ job.seed = c.replay.ensures.seeded ∙ c.requires.may_play.taken.ready.seeded in
    let size = c.replay.ensures.played.one_each in
    let before = g.A.CellArray.state c.replay.new.array in
    let array = g.A.CellArray.state c.print_run.new.array in
    let left = c.replay.ensures.right in
    let some = c.print_run.ensures.sensed in
    let stays =
    right-now c.replay.new.pcm before array events c.replay.new.results c.replay.ensures.played some.0 some.2.since
    c.sensed_runs_stay_right.ensures (subst IsShape (sym shape) c.requires.may_play.asked.shape) left.0 left.2 in
    let can =
    can-print job before events c.replay.new.results c.replay.new.pcm shape seeded size left
    c.right_runs_can_be_printed.ensures c.requires.may_play.asked.shape c.requires.may_play.asked.small c.requires.may_play.lawful in
    record {
      done = search rules;
      in_part =
          on_err_any c.from_residual.result _
          (λ s come.
          run-part job array events c.replay.new.results c.replay.new.pcm shape seeded size (left.0, left.1, stays) s come
          (some.2.since.wear ∙ c.replay.ensures.wear ∙ c.requires.may_play.taken.wear) _
          (leaves-with c.replay.new.pcm before array events c.replay.new.results c.replay.ensures.played some.0 some.2.since left.0 left.1 (λ saved count. (count ≤ senses_for job.print array.lines) × (job.print ≡ Image → WritesRows array saved (g.K.Sink.written c.args.out.now) (g.K.Sink.written c.print_run.new.out))) some.2.rows
          (subst (λ lines. some.0 ≤ senses_for job.print lines) (sym some.2.since.lines) some.1, c.in_err-print_run.ensures.part))
          can.roles c.in_err-print_run.ensures.prefix);
      fault = on_err_any c.from_residual.result _ c.in_err-print_run.ensures.fault;
      never_falls = c.print_run.ensures.never_falls;
    }

pub returns : goal.returns
returns g c =
    let job = c.args.job.now in
    let events = c.args.events.now in
    let shape : c.replay.new.pcm.shape ≡ job.shape = c.replay.ensures.shape ∙ c.requires.may_play.taken.ready.shape in
    let seeded : c.replay.new.pcm.seed ≡ job.seed = c.replay.ensures.seeded ∙ c.requires.may_play.taken.ready.seeded in
    let size = c.replay.ensures.played.one_each in
    let before = g.A.CellArray.state c.replay.new.array in
    let array = g.A.CellArray.state c.print_run.new.array in
    let left = c.replay.ensures.right in
    let some = c.print_run.ensures.sensed in
    let all = c.in_ok-print_run.ensures.all in
    let stays =
    right-now c.replay.new.pcm before array events c.replay.new.results c.replay.ensures.played some.0 some.2.since
    c.sensed_runs_stay_right.ensures (subst IsShape (sym shape) c.requires.may_play.asked.shape) left.0 left.2 in
    let can =
    can-print job before events c.replay.new.results c.replay.new.pcm shape seeded size left
    c.right_runs_can_be_printed.ensures c.requires.may_play.asked.shape c.requires.may_play.asked.small c.requires.may_play.lawful in
    record {
      done =
          λ s come.
          run-written job array events c.replay.new.results c.replay.new.pcm shape seeded size (left.0, left.1, stays) s come
          (some.2.since.wear ∙ c.replay.ensures.wear ∙ c.requires.may_play.taken.wear) _ c.ending.result c.ending.ensures
          (leaves-with c.replay.new.pcm before array events c.replay.new.results c.replay.ensures.played (senses_for job.print before.lines) all.since left.0 left.1 (λ saved count. count ≡ senses_for job.print array.lines) all.rows
          (ap (senses_for job.print) (sym all.since.lines)))
          can.roles c.in_ok-print_run.ensures.ok;
      in_part = tt;
      fault = tt;
      never_falls = c.print_run.ensures.never_falls;
    }
