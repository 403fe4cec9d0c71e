use Rattle.std.proofs.Common.{◌≡◌, length, refl, arith, rules}
use Rattle.bank_timing.proofs.Sizes.{timed_fits}
use Rattle.trace_reader.proofs.Sizes.{event_fits}
use Rattle.pcm_top.proofs.{Deciding.{come-within, memory-after}, Making.ready-for}
use Rattle.pcm_top.proofs.run.run.Goals as goal

pub returns-in-Err : goal.returns-in-Err
returns-in-Err g c =
    let come = c.in_ok-events.ensures.gives in
    record {
      ends =
          record {
            done = tt;
            write = search rules;
            cause = λ _. memory-after g.row.B c.args.job.now c.args.job.now.input _ _ come.done come.unfailing;
            unwritten = search rules;
            never_falls = search rules;
          };
      reads =
          record {
            too_long = λ low over. absurd (come-within g.row.B c.args.job.now c.args.job.now.input _ _ c.in_ok-events.ensures.gives.done low over);
            never_falls = c.in_ok-events.ensures.gives.never_falls;
          };
      untouched = λ _ other. absurd (other refl);
      unread = search rules;
    }

pub drop-pcm-inside-requires-room-T-Destruct : goal.drop-pcm-inside-requires-room-T-Destruct
drop-pcm-inside-requires-room-T-Destruct g c κs = timed_fits g.row.B g.row.M g.row.E c.requires.layout

pub drop-pcm-inside-requires-2-room-T-Destruct : goal.drop-pcm-inside-requires-2-room-T-Destruct
drop-pcm-inside-requires-2-room-T-Destruct g c κs = timed_fits g.row.B g.row.M g.row.E c.requires.layout

pub play-requires : goal.play-requires
play-requires g c =
    let few = c.in_ok-events.ensures.rows in
    let rows : c.len.result ≡ length c.as_slice.result.now = omega (arith, c.len.ensures, c.as_slice.ensures.len, few) in
    let had = c.in-Ok.ensures.taken in (
      omega arith,
      (
        event_fits g.row.B c.requires.layout.shape.1,
        (
          omega arith,
          (
            c.requires.layout,
            (
              c.requires.wide,
              record {
                asked = c.requires.job;
                lawful = rw c.as_slice.ensures.value c.in_ok-events.ensures.events;
                rows = omega (arith, c.as_slice.ensures.len, few);
                taken = record { ready = ready-for _ _ _ _ _ _ _ rows had.ready; wear = had.wear; roomy = had.roomy };
              },
            ),
          ),
        ),
      ),
    )

pub returns-in-Ok-play : goal.returns-in-Ok-play
returns-in-Ok-play g c = record {
  ends =
      record {
        done = c.in-Ok-play.ensures.done _ (rw (← c.as_slice.ensures.value) at c.in_ok-events.ensures.gives.done);
        write = search rules;
        cause = tt;
        unwritten = tt;
        never_falls = c.play.ensures.never_falls;
      };
  reads =
      record {
        too_long = λ low over. absurd (come-within g.row.B c.args.job.now c.args.job.now.input _ _ c.in_ok-events.ensures.gives.done low over);
        never_falls = c.in_ok-events.ensures.gives.never_falls;
      };
  untouched = tt;
  unread = search rules;
}

pub returns : goal.returns
returns g c = record {
  ends =
      record {
        done = tt;
        write = λ _. (c.in-Err-play.ensures.in_part _ (rw (← c.as_slice.ensures.value) at c.in_ok-events.ensures.gives.done), c.in-Err-play.ensures.fault);
        cause = λ other. absurd (other refl);
        unwritten = λ other. absurd (other refl);
        never_falls = c.play.ensures.never_falls;
      };
  reads =
      record {
        too_long = λ low over. absurd (come-within g.row.B c.args.job.now c.args.job.now.input _ _ c.in_ok-events.ensures.gives.done low over);
        never_falls = c.in_ok-events.ensures.gives.never_falls;
      };
  untouched = λ other _. absurd (other refl);
  unread = search rules;
}
