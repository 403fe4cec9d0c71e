use Rattle.std.proofs.Common.{◌≡◌, ◌∙◌, ◌≤◌, inl, zero, Err, Ok, ap, refl, arith, rules}
use Rattle.row_stream.specs.Asking.{stays_off, with_cut}
use Rattle.bank_timing.proofs.Sizes.{timed_fits}
use Rattle.program_calls.specs.Calls.{sink_change}
use Rattle.stream_top.specs.{Calls.source_between, Leaving.senses_for, Streams.{is_off, shown_by}}
use Rattle.stream_top.proofs.{Keeping.{calm-done, calm-fault, never-failed, stream-breaks, stream-part, stream-stops, stream-whole}, Playing.has-image, Waiting.waits-shown}
use Rattle.stream_top.proofs.serving.stream.Goals as goal

pub drop-pcm-inside-requires-room-T-Destruct : goal.drop-pcm-inside-requires-room-T-Destruct
drop-pcm-inside-requires-room-T-Destruct g c κs = timed_fits g.row.B g.row.M g.row.E c.requires.layout

pub drop-pcm-inside-requires-in-Ok-print_closing-room-T-Destruct :
    goal.drop-pcm-inside-requires-in-Ok-print_closing-room-T-Destruct
drop-pcm-inside-requires-in-Ok-print_closing-room-T-Destruct g c κs = timed_fits g.row.B g.row.M g.row.E c.requires.layout

pub drop-pcm-inside-requires-2-room-T-Destruct : goal.drop-pcm-inside-requires-2-room-T-Destruct
drop-pcm-inside-requires-2-room-T-Destruct g c κs = timed_fits g.row.B g.row.M g.row.E c.requires.layout

pub play-requires : goal.play-requires
play-requires g c = (
  omega arith,
  (
    omega arith,
    (
      c.requires.layout,
      (
        c.requires.job,
        rw (c.new-printer.ensures.rows, c.new-printer.ensures.told, c.new-printer.ensures.snapshots) (c.in-Ok.ensures.taken.serving c.new-printer.result.prints),
      ),
    ),
  ),
)

pub print_closing-requires : goal.print_closing-requires
print_closing-requires g c =
    let p = c.in-Ok-play.ensures.done in
    let new = c.play.new in (
      omega arith,
      (
        c.requires.layout,
        (
          search rules,
          (
            search rules,
            (
              has-image c.args.job.now (stays_off (is_off c.args.job.now.end) p.0) (with_cut (is_off c.args.job.now.end) p.0) new.pcm (g.A.CellArray.state new.array) new.out.rows new.out.told p.1.0.0,
              search rules,
            ),
          ),
        ),
      ),
    )

-- it stopped at a fault, or the output failed before the text of the end
pub returns-in-Err-play-clause-ends : goal.returns-in-Err-play-clause-ends
returns-in-Err-play-clause-ends g c =
    let p = c.in-Err-play.ensures in
    let new = c.play.new in
    let source = source_between g.S.Source.left g.S.Source.taken g.S.Source.faults c.args.source.now new.source in
    let out = sink_change g.K.Sink.written g.K.Sink.faults c.args.out.value c.end.result.0.value in
    let state = g.A.CellArray.state new.array in
    let shown = c.shown_of-shown.ensures.is ∙ ap (λ raw. shown_by raw c.args.job.now.seed c.args.job.now.print) c.raw.ensures.same in
    let prints : new.out.prints ≡ shown_by c.args.job.now.shape c.args.job.now.seed c.args.job.now.print = p.prints ∙ c.new-printer.ensures.prints ∙ shown in
    record {
      done = tt;
      write = λ is.
          stream-breaks g.row.B g.row.M g.row.E c.args.job.now source new.pcm state new.out.rows new.out.told new.out.prints new.out.snapshots prints c.end.ensures.once c.requires.job
          (g.A.TellsCells.changes new.array) c.each_row_is_told.ensures c.ended_streams_are_kept.ensures c.requires.job.shape c.in-Ok.ensures.taken.small (p.wear ∙ c.in-Ok.ensures.taken.wear) out
          (p.broken is) (rw c.end.ensures.sink (p.part is _ _ c.new-printer.ensures.printing));
      cause = λ other.
          let calm = calm-fault (Err c.in-Err-play.fault) c.in-Err-play.fault refl other in
          let s = p.stopped other in
          inl (stream-stops g.row.B g.row.M g.row.E c.args.job.now source new.pcm state new.out.rows new.out.told new.out.prints new.out.snapshots prints c.end.ensures.once c.requires.job
          (p.wear ∙ c.in-Ok.ensures.taken.wear) out c.in-Err-play.fault s.0 s.1 s.2 s.3 (rw c.end.ensures.sink (p.written calm _ _ c.new-printer.ensures.printing)));
      unread = p.unread;
    }

-- it was served to its end, and all was written
pub returns-in-Ok-print_closing-clause-ends : goal.returns-in-Ok-print_closing-clause-ends
returns-in-Ok-print_closing-clause-ends g c =
    let p = c.in-Ok-play.ensures in
    let new = c.play.new in
    let source = source_between g.S.Source.left g.S.Source.taken g.S.Source.faults c.args.source.now new.source in
    let out = sink_change g.K.Sink.written g.K.Sink.faults c.args.out.value c.print_closing.new.out in
    let before = g.A.CellArray.state new.array in
    let array = g.A.CellArray.state c.print_closing.new.array in
    let all = c.in-Ok-print_closing.ensures.all in
    let calm = calm-done (Ok c.in-Ok-play.done) c.in-Ok-play.done refl in
    let shown = c.shown_of-shown.ensures.is ∙ ap (λ raw. shown_by raw c.args.job.now.seed c.args.job.now.print) c.raw.ensures.same in
    record {
      done =
          stream-whole g.row.B g.row.M g.row.E c.args.job.now source new.pcm before new.out.rows new.out.told new.out.prints new.out.snapshots (p.prints ∙ c.new-printer.ensures.prints ∙ shown) c.end-out.ensures.once c.requires.job
          array (g.A.TellsCells.changes new.array) (g.A.TellsCells.changes c.print_closing.new.array) (λ other. ap g.A.TellsCells.changes (c.print_closing.ensures.untouched other)) c.each_row_is_told.ensures c.ended_streams_are_kept.ensures c.requires.job.shape c.in-Ok.ensures.taken.small (all.since.wear ∙ p.wear ∙ c.in-Ok.ensures.taken.wear)
          (λ other. ap g.A.CellArray.state (c.print_closing.ensures.untouched other)) (senses_for c.args.job.now.print before.lines) all p.done.0 p.done.1
          out (g.K.Sink.written c.deref_mut.result.now)
          (rw (c.deref_mut.ensures.value, c.end-out.ensures.sink) (p.written calm _ _ c.new-printer.ensures.printing))
          c.rows-rows.result c.counts-counts.result c.rows-rows.ensures c.counts-counts.ensures c.in-Ok-print_closing.ensures.ok refl c.in-Ok-play.done p.done.2;
      write = never-failed c.in-Ok-play.done _;
      cause = tt;
      unread = p.unread;
    }

-- so it was, and the output failed within the text of the end
pub returns-clause-ends : goal.returns-clause-ends
returns-clause-ends g c =
    let p = c.in-Ok-play.ensures in
    let new = c.play.new in
    let source = source_between g.S.Source.left g.S.Source.taken g.S.Source.faults c.args.source.now new.source in
    let out = sink_change g.K.Sink.written g.K.Sink.faults c.args.out.value c.print_closing.new.out in
    let before = g.A.CellArray.state new.array in
    let array = g.A.CellArray.state c.print_closing.new.array in
    let some = c.print_closing.ensures.sensed in
    let calm = calm-done (Ok c.in-Ok-play.done) c.in-Ok-play.done refl in
    let shown = c.shown_of-shown.ensures.is ∙ ap (λ raw. shown_by raw c.args.job.now.seed c.args.job.now.print) c.raw.ensures.same in
    let falls : g.K.Sink.faults c.args.out.value ≤ g.K.Sink.faults c.deref_mut.result.now = rw (c.deref_mut.ensures.value, c.end-out.ensures.sink) (p.falls _ _ c.new-printer.ensures.printing) in
    record {
      done = tt;
      write = λ is.
          stream-part g.row.B g.row.M g.row.E c.args.job.now source new.pcm before new.out.rows new.out.told new.out.prints new.out.snapshots (p.prints ∙ c.new-printer.ensures.prints ∙ shown) c.end-out.ensures.once c.requires.job
          array (g.A.TellsCells.changes new.array) (g.A.TellsCells.changes c.print_closing.new.array) (λ other. ap g.A.TellsCells.changes (c.print_closing.ensures.untouched other)) c.each_row_is_told.ensures c.ended_streams_are_kept.ensures c.requires.job.shape c.in-Ok.ensures.taken.small (some.2.since.wear ∙ p.wear ∙ c.in-Ok.ensures.taken.wear)
          (λ other. ap g.A.CellArray.state (c.print_closing.ensures.untouched other)) some.0 some.2 p.done.0 p.done.1
          out (g.K.Sink.written c.deref_mut.result.now)
          (rw (c.deref_mut.ensures.value, c.end-out.ensures.sink) (p.written calm _ _ c.new-printer.ensures.printing))
          c.rows-rows.result c.counts-counts.result c.rows-rows.ensures c.counts-counts.ensures c.in-Err-print_closing.ensures.prefix some.1 c.in-Err-print_closing.ensures.part
          (omega (arith, falls, c.in-Err-print_closing.ensures.fault));
      cause = λ other. absurd (other refl);
      unread = p.unread;
    }

-- the source was asked behind what was written, and without memory not at all
pub returns-in-Err-clause-waits : goal.returns-in-Err-clause-waits
returns-in-Err-clause-waits g c = (zero, refl)

pub returns-in-Err-play-clause-waits : goal.returns-in-Err-play-clause-waits
returns-in-Err-play-clause-waits g c =
    let shown = c.shown_of-shown.ensures.is ∙ ap (λ raw. shown_by raw c.args.job.now.seed c.args.job.now.print) c.raw.ensures.same in
    waits-shown g.row.B g.row.M g.row.E c.args.job.now (source_between g.S.Source.left g.S.Source.taken g.S.Source.faults c.args.source.now c.play.new.source) g.K.Sink.written (g.K.Sink.written c.args.out.value)
    c.new-printer.result.prints c.requires.job (c.new-printer.ensures.prints ∙ shown) (c.play.ensures.waits _ _ c.new-printer.ensures.printing)

pub returns-in-Ok-print_closing-clause-waits : goal.returns-in-Ok-print_closing-clause-waits
returns-in-Ok-print_closing-clause-waits g c =
    let shown = c.shown_of-shown.ensures.is ∙ ap (λ raw. shown_by raw c.args.job.now.seed c.args.job.now.print) c.raw.ensures.same in
    waits-shown g.row.B g.row.M g.row.E c.args.job.now (source_between g.S.Source.left g.S.Source.taken g.S.Source.faults c.args.source.now c.play.new.source) g.K.Sink.written (g.K.Sink.written c.args.out.value)
    c.new-printer.result.prints c.requires.job (c.new-printer.ensures.prints ∙ shown) (c.play.ensures.waits _ _ c.new-printer.ensures.printing)

pub returns-clause-waits : goal.returns-clause-waits
returns-clause-waits g c =
    let shown = c.shown_of-shown.ensures.is ∙ ap (λ raw. shown_by raw c.args.job.now.seed c.args.job.now.print) c.raw.ensures.same in
    waits-shown g.row.B g.row.M g.row.E c.args.job.now (source_between g.S.Source.left g.S.Source.taken g.S.Source.faults c.args.source.now c.play.new.source) g.K.Sink.written (g.K.Sink.written c.args.out.value)
    c.new-printer.result.prints c.requires.job (c.new-printer.ensures.prints ∙ shown) (c.play.ensures.waits _ _ c.new-printer.ensures.printing)
