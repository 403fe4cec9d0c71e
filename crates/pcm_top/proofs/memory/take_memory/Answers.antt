use Rattle.std.proofs.Common.{ℕ, subst}
use Rattle.cell_rows.specs.Device.{IsFresh}
use Rattle.bank_timing.proofs.Sizes.{timed_fits}
use Rattle.pcm_top.proofs.memory.take_memory.Goals as goal

pub drop-branch-requires-room-T-Destruct : goal.drop-branch-requires-room-T-Destruct
drop-branch-requires-room-T-Destruct g c κs = timed_fits g.row.B g.row.M g.row.E c.requires.layout

pub drop-branch-requires-in_err-new-3-2-room-T-Destruct :
    goal.drop-branch-requires-in_err-new-3-2-room-T-Destruct
drop-branch-requires-in_err-new-3-2-room-T-Destruct g c κs = timed_fits g.row.B g.row.M g.row.E c.requires.layout

pub returns : goal.returns
returns g c =
    let made = c.in_ok-new.ensures.shape in
    let array = g.A.CellArray.state c.power_up.new.self in
    let Fresh : ℕ → Type 0 = λ lines. IsFresh lines c.args.job.now.wear array in
    record {
      taken = record {
        ready =
            record {
              shape = made.0;
              seeded = made.1;
              tick = made.2;
              bound = made.3;
              going = made.4;
              replays = c.in_ok-new.ensures.begins array c.args.job.now.wear c.in_ok-new-2.field-0 (subst Fresh c.array_lines.ensures.number c.in_ok-power_up.ensures.ok);
              open_rows = c.in_ok-new-2.ensures;
            };
        wear = c.in_ok-power_up.ensures.ok.wear;
        roomy = c.in_ok-new-3.ensures;
      };
    }
