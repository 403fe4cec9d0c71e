use Rattle.std.proofs.Common.{ℕ, subst, rules}
use Rattle.cell_rows.specs.Device.{IsFresh}
use Rattle.bank_timing.proofs.Sizes.{timed_fits}
use Rattle.stream_top.proofs.Playing.{serves-none}
use Rattle.stream_top.proofs.memory.take_memory.Goals as goal

pub drop-branch-requires-room-T-Destruct : goal.drop-branch-requires-room-T-Destruct
drop-branch-requires-room-T-Destruct g c κs = timed_fits g.row.B g.row.M g.row.E c.requires.layout

pub returns : goal.returns
returns g c =
    let made = c.in_ok-new.ensures.shape in
    let array = g.A.CellArray.state c.power_up.new.self in
    let Fresh : ℕ → Type 0 = λ lines. IsFresh lines c.args.job.now.wear array in
    record {
      taken =
          record {
            serving =
                λ shown.
                serves-none c.args.job.now.shape c.args.job.now.seed c.in_ok-new.field-0 array shown made.0 made.1 made.2 made.3 made.4
                (λ results. c.in_ok-new.ensures.begins array c.args.job.now.wear results (subst Fresh c.array_lines.ensures.number c.in_ok-power_up.ensures.ok));
            wear = c.in_ok-power_up.ensures.ok.wear;
            small = search rules;
            roomy = c.in_ok-new-2.ensures;
          };
    }
