use Rattle.std.proofs.Common.{◌≡◌, ◌∙◌, ℕ, List, Bool, inl, inr, Err, ap, subst}
use Rattle.row_printer.specs.{Printing.table_told, declared.snapshot.Snapshot.Snapshot, declared.told.Shown.Shown, declared.told.Told.Told}
use Rattle.row_stream.{specs.Serving.told_so_far, proofs.Alike.told-same}
use Rattle.stream_top.specs.{Calls.source_between, Streams.{GoesAsFarAs, HasPlayed, StopsBy, done_by, has_stopped, told_of_rows}, declared.fault.StreamRunFault.StreamRunFault}
use Rattle.stream_top.{specs.declared.fault.StreamRunFault.TheVariants.Write, proofs.Playing.stopped-of}
use Rattle.stream_top.proofs.serving.play.Goals as goal

pub returns-in-Err-clause-part : goal.returns-in-Err-clause-part
returns-in-Err-clause-part g c = λ is.
    let same : c.in-Err.fault ≡ Write = cc in
    c.in-Err.ensures.part (ap Err same)

pub returns-in_default-clause-part : goal.returns-in_default-clause-part
returns-in_default-clause-part g c = λ is before first h.
    c.in_default.ensures.err before first (c.end.ensures.printing before first (c.serve_rows.ensures.printing before first h))

pub returns-in-Err-clause-broken : goal.returns-in-Err-clause-broken
returns-in-Err-clause-broken g c = λ is.
    let same : c.in-Err.fault ≡ Write = cc in
    let s = c.in-Err.ensures.stopped in
    let source = source_between g.S.Source.left g.S.Source.taken g.S.Source.faults c.args.source.now c.serve_rows.new.source in
    let By : StreamRunFault → Type 0 = λ f. StopsBy g.row.B g.row.M g.row.E c.args.job.now source c.args.job.now.input f s.0 × GoesAsFarAs g.row.B g.row.M g.row.E c.args.job.now source f s.0 (told_so_far s.1) in
    let both = subst By same (s.2, s.3) in
    (s.0, inr (s.1, both.0, both.1))

pub returns-in_default-clause-broken : goal.returns-in_default-clause-broken
returns-in_default-clause-broken g c = λ is.
    let s = c.in-Ok.ensures.served in
    let source = source_between g.S.Source.left g.S.Source.taken g.S.Source.faults c.args.source.now c.serve_rows.new.source in
    let out = c.end.new.out in
    let stopped = c.has_stopped-stopped.result in
    let Ended : ℕ → List (Told g.row.B) → Shown → List Snapshot → Type 0 = λ rows told prints snaps.
    (played : HasPlayed g.row.B g.row.M g.row.E c.args.job.now source s.0 c.end.new.pcm (g.A.CellArray.state c.end.new.array) rows told prints snaps)
    × (stopped ≡ has_stopped g.row.B g.row.M g.row.E c.args.job.now source s.0 (told_of_rows g.row.B g.row.M g.row.E c.args.job.now source s.0 played.0.0)) in
    let both = told-same Ended out.rows c.flush.new.self.rows out.told c.flush.new.self.told out.prints c.flush.new.self.prints out.snapshots c.flush.new.self.snapshots
    c.flush.ensures.rows c.flush.ensures.told c.flush.ensures.prints c.flush.ensures.snapshots
    (stopped-of g.row.B g.row.M g.row.E c.args.job.now source s.0 s.1 c.end.new.pcm (g.A.CellArray.state c.end.new.array) out.rows out.told out.prints out.snapshots c.stays_off.result c.stays_off.ensures
    (c.end.ensures.ended c.args.job.now.shape c.args.job.now.seed s.0 s.1 s.2) s.3 stopped c.has_stopped-stopped.ensures) in
    (s.0, inl both.0)

pub returns-clause-done : goal.returns-clause-done
returns-clause-done g c =
    let s = c.in-Ok.ensures.served in
    let source = source_between g.S.Source.left g.S.Source.taken g.S.Source.faults c.args.source.now c.serve_rows.new.source in
    let out = c.end.new.out in
    let stopped = c.has_stopped-stopped.result in
    let Ended : ℕ → List (Told g.row.B) → Shown → List Snapshot → Type 0 = λ rows told prints snaps.
    (played : HasPlayed g.row.B g.row.M g.row.E c.args.job.now source s.0 c.end.new.pcm (g.A.CellArray.state c.end.new.array) rows told prints snaps)
    × (stopped ≡ has_stopped g.row.B g.row.M g.row.E c.args.job.now source s.0 (told_of_rows g.row.B g.row.M g.row.E c.args.job.now source s.0 played.0.0)) in
    let both = told-same Ended out.rows c.flush.new.self.rows out.told c.flush.new.self.told out.prints c.flush.new.self.prints out.snapshots c.flush.new.self.snapshots
    c.flush.ensures.rows c.flush.ensures.told c.flush.ensures.prints c.flush.ensures.snapshots
    (stopped-of g.row.B g.row.M g.row.E c.args.job.now source s.0 s.1 c.end.new.pcm (g.A.CellArray.state c.end.new.array) out.rows out.told out.prints out.snapshots c.stays_off.result c.stays_off.ensures
    (c.end.ensures.ended c.args.job.now.shape c.args.job.now.seed s.0 s.1 s.2) s.3 stopped c.has_stopped-stopped.ensures) in
    (s.0, both.0, c.done.ensures ∙ ap (λ (b : Bool). done_by b (table_told c.flush.new.self)) both.1)

pub returns-clause-written : goal.returns-clause-written
returns-clause-written g c = λ is before first h.
    c.in-Ok-flush.ensures.ok before first (c.end.ensures.printing before first (c.serve_rows.ensures.printing before first h))

pub returns-in-Err-clause-falls : goal.returns-in-Err-clause-falls
returns-in-Err-clause-falls g c = λ before first h. (c.serve_rows.ensures.printing before first h).never_falls

pub returns-in_default-clause-falls : goal.returns-in_default-clause-falls
returns-in_default-clause-falls g c = λ before first h.
    (c.flush.ensures.printing before first (c.end.ensures.printing before first (c.serve_rows.ensures.printing before first h))).never_falls

pub returns-clause-falls : goal.returns-clause-falls
returns-clause-falls g c = λ before first h.
    (c.flush.ensures.printing before first (c.end.ensures.printing before first (c.serve_rows.ensures.printing before first h))).never_falls

-- the source was asked as rows were served
pub returns-in-Err-clause-waits : goal.returns-in-Err-clause-waits
returns-in-Err-clause-waits g c = c.serve_rows.ensures.waits

pub returns-in_default-clause-waits : goal.returns-in_default-clause-waits
returns-in_default-clause-waits g c = c.serve_rows.ensures.waits

pub returns-clause-waits : goal.returns-clause-waits
returns-clause-waits g c = c.serve_rows.ensures.waits
