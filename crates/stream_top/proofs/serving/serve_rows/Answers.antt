use Rattle.std.proofs.Common.{◌≡◌, ◌∙◌, zero, Err, ap, refl, sym, subst}
use Rattle.command_line.specs.declared.job.Input.{Input}
use Rattle.row_stream.specs.Serving.{told_so_far}
use Rattle.stream_top.specs.{Calls.source_between, Streams.{ComeFrom, GoesAsFarAs, HasCause, StopsBy}, declared.fault.StreamRunFault.StreamRunFault, declared.fault.StreamRunFault.TheVariants.Write}
use Rattle.stream_top.proofs.Playing.{ends-by, goes-as-far, only-output, stop-cause, went-by}
use Rattle.stream_top.proofs.serving.serve_rows.Goals as goal

pub returns-in-Ok-clause-served : goal.returns-in-Ok-clause-served
returns-in-Ok-clause-served g c =
    let s = c.in-Ok.ensures.served c.args.job.now.shape c.args.job.now.seed c.requires.begins in
    let Comes : Input → Type 0 = λ i. ComeFrom g.row.B g.row.M g.row.E c.args.job.now (source_between g.S.Source.left g.S.Source.taken g.S.Source.faults c.args.source.now c.serve_source.new.source) i s.0 (told_so_far s.1) in
    (s.0, s.1, s.2, subst Comes (sym c.in-Source.is) (ends-by c.stops_at-stops.result _ c.stops_at-stops.ensures s.0 (told_so_far s.1) _ _ s.3))

pub returns-in-Err-clause-stopped : goal.returns-in-Err-clause-stopped
returns-in-Err-clause-stopped g c =
    let s = c.in-Err.ensures.stopped c.args.job.now.shape c.args.job.now.seed c.requires.begins in
    let By : Input → Type 0 = λ i. StopsBy g.row.B g.row.M g.row.E c.args.job.now (source_between g.S.Source.left g.S.Source.taken g.S.Source.faults c.args.source.now c.serve_source.new.source) i c.fault_of.result s.0 in
    let For : StreamRunFault → Type 0 = λ f. HasCause g.row.B g.row.M g.row.E c.args.job.now (source_between g.S.Source.left g.S.Source.taken g.S.Source.faults c.args.source.now c.serve_source.new.source) f s.0 in
    let source = source_between g.S.Source.left g.S.Source.taken g.S.Source.faults c.args.source.now c.serve_source.new.source in
    let Far : StreamRunFault → Type 0 = λ f. GoesAsFarAs g.row.B g.row.M g.row.E c.args.job.now source f s.0 (told_so_far s.1) in
    (s.0, s.1, subst By (sym c.in-Source.is) (subst For (sym c.fault_of.ensures) (stop-cause g.row.B g.row.M g.row.E c.args.job.now (source_between g.S.Source.left g.S.Source.taken g.S.Source.faults c.args.source.now c.serve_source.new.source) s.0 c.in-Err.stop s.2)), subst Far (sym c.fault_of.ensures) (goes-as-far g.row.B g.row.M g.row.E c.args.job.now source s.0 (told_so_far s.1) c.stops_at-stops.result c.stops_at-stops.ensures c.in-Err.stop s.3))

pub returns-in-Err-clause-part : goal.returns-in-Err-clause-part
returns-in-Err-clause-part g c = λ is.
    let same : c.fault_of.result ≡ Write = cc in
    c.in-Err.ensures.part (ap Err (only-output c.in-Err.stop (sym c.fault_of.ensures ∙ same)))

pub returns-in-Ok-serve_drawn-clause-served : goal.returns-in-Ok-serve_drawn-clause-served
returns-in-Ok-serve_drawn-clause-served g c =
    let s = c.in-Ok-serve_drawn.ensures.served c.args.job.now.shape c.args.job.now.seed c.requires.begins in
    let Comes : Input → Type 0 = λ i. ComeFrom g.row.B g.row.M g.row.E c.args.job.now (source_between g.S.Source.left g.S.Source.taken g.S.Source.faults c.args.source.now c.args.source.now) i s.0 (told_so_far s.1) in
    (s.0, s.1, s.2, subst Comes (sym c.in-Drawn.is) (refl, ends-by c.stops_at-stops.result _ c.stops_at-stops.ensures s.0 (told_so_far s.1) _ _ s.3))

pub returns-in-Err-serve_drawn-clause-stopped : goal.returns-in-Err-serve_drawn-clause-stopped
returns-in-Err-serve_drawn-clause-stopped g c =
    let s = c.in-Err-serve_drawn.ensures.stopped c.args.job.now.shape c.args.job.now.seed c.requires.begins in
    let By : Input → Type 0 = λ i. StopsBy g.row.B g.row.M g.row.E c.args.job.now (source_between g.S.Source.left g.S.Source.taken g.S.Source.faults c.args.source.now c.args.source.now) i Write s.0 in
    (s.0, s.1, subst By (sym c.in-Drawn.is) (refl, refl, s.2), went-by c.stops_at-stops.result _ c.stops_at-stops.ensures s.0 (told_so_far s.1) s.3)

-- a source was asked behind what was written, and where rows are drawn not at all
pub returns-in-Ok-clause-waits : goal.returns-in-Ok-clause-waits
returns-in-Ok-clause-waits g c = c.serve_source.ensures.waits c.args.job.now.shape c.args.job.now.seed c.requires.begins

pub returns-in-Err-clause-waits : goal.returns-in-Err-clause-waits
returns-in-Err-clause-waits g c = c.serve_source.ensures.waits c.args.job.now.shape c.args.job.now.seed c.requires.begins

pub returns-in-Ok-serve_drawn-clause-waits : goal.returns-in-Ok-serve_drawn-clause-waits
returns-in-Ok-serve_drawn-clause-waits g c = λ before first h. (zero, refl)

pub returns-in-Err-serve_drawn-clause-waits : goal.returns-in-Err-serve_drawn-clause-waits
returns-in-Err-serve_drawn-clause-waits g c = λ before first h. (zero, refl)
