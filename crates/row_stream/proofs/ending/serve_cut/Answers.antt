use Rattle.std.proofs.Common.{◌≡◌, ◌∙◌, ◌∷◌, ℕ, arith, subst}
use Rattle.trace_reader.{specs.declared.event.EventOp.TheVariants.Cut, proofs.Sizes.event_fits}
use Rattle.trace_stream.specs.{declared.asked.Asked.Asked, declared.asked.Asked.TheVariants.Happens}
use Rattle.row_stream.{specs.Serving.{IsServing, told_before, told_so_far}, proofs.Ends.cut-next}
use Rattle.row_stream.proofs.ending.serve_cut.Goals as goal

pub serve_event-requires : goal.serve_event-requires
serve_event-requires g c =
    let s = c.requires.serving in (
      omega arith,
      (
        event_fits g.row.B c.requires.layout.shape.1,
        (
          omega arith,
          (c.requires.layout, (cut-next _ c.args.pcm.now.tick c.tick.result c.tick.ensures s.serving.in_time, (c.requires.few, s))),
        ),
      ),
    )

pub returns-clause-serves : goal.returns-clause-serves
returns-clause-serves g c = record {
  serving = λ raw seed before had.
      let cut : ℕ → Asked g.row.B = λ tick. Happens (record { tick = tick; op = Cut }) in
      let P : ℕ → Type 0 = λ tick. (has : IsServing raw seed (cut tick ∷ before) c.serve_event.new.pcm (g.A.CellArray.state c.serve_event.new.array) c.serve_event.new.out.rows c.serve_event.new.out.told c.serve_event.new.out.prints c.serve_event.new.out.snapshots)
      × (told_before (cut tick) before (told_so_far has) ≡ told_so_far had) in
      subst P (c.tick.ensures ∙ had.tick) (c.serve_event.ensures.serves.serving raw seed before had);
  prints = c.serve_event.ensures.serves.prints;
  wear = c.serve_event.ensures.serves.wear;
}
