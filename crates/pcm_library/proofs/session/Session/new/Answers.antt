use Rattle.std.proofs.Common.{ℕ, ◌+◌, [], refl, sym, ap, ◌∙◌, subst}
use Rattle.std.proofs.lemmas.Bool.{false≢true}
use Rattle.cell_rows.specs.Device.{IsFresh}
use Rattle.bank_timing.proofs.Sizes.{timed_fits}
use Rattle.module_shape.specs.declared.raw.RawShape.{RawShape}
use Rattle.pcm_library.{specs.Serving.most_open, proofs.Beginning.{begins-serving, own-serving}}
use Rattle.pcm_library.proofs.session.Session.new.Goals as goal

pub drop-module-inside-requires-room-T-Destruct : goal.drop-module-inside-requires-room-T-Destruct
drop-module-inside-requires-room-T-Destruct g c κs = timed_fits g.row.B g.row.M g.row.E c.requires.layout

pub invariant_of-result : goal.invariant_of-result
invariant_of-result g c =
    let made = c.in_ok-module.ensures.shape in
    let kept = c.in_ok-kept.ensures in
    let of = c.in_ok-kept.kept in
    let array = g.A.CellArray.state c.power_up.new.self in
    let Fresh : ℕ → Type 0 = λ lines. IsFresh lines c.args.wear array in
    let fresh = subst Fresh c.array_lines.ensures.number c.in_ok-power_up.ensures.ok in
    rw c.new-asked.ensures.newest (record {
      layout = c.requires.layout;
      going = made.4;
      stands = refl;
      room = kept.room ∙ c.room_for.ensures ∙ ap (λ (s : RawShape). most_open s + 1) (sym made.0);
      serving = λ going.
          own-serving c.args.shape c.args.seed [] c.in_ok-module.module array of.rows of.told of.prints of.snapshots
          (begins-serving c.args.shape c.args.seed c.in_ok-module.module array of.rows of.told of.prints of.snapshots
          kept.rows kept.told kept.snapshots made.0 made.1 made.2 made.3 made.4 (λ results. c.in_ok-module.ensures.begins array c.args.wear results fresh));
      ended = λ is. absurd (false≢true is);
    })
