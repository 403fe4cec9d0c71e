use Rattle.std.proofs.Common.{refl, subst, sym}
use Rattle.check_telling.proofs.Sizes.{row_fits}
use Rattle.verdict_telling.{specs.Explained.IsWriteOf, proofs.Sizes.{crowd_fits, explanation_fits, few_before}, proofs.Telling.cut_tells}
use Rattle.verdict_telling.proofs.row.explain_one.Goals as goal

pub find_room-requires : goal.find_room-requires
find_room-requires g c = (row_fits g.row.B c.requires.small, (crowd_fits, (c.requires.small, (few_before _ _ c.requires.may.few, c.requires.may.past))))

pub explain_read-requires : goal.explain_read-requires
explain_read-requires g c = (
  row_fits g.row.B c.requires.small,
  (crowd_fits, (explanation_fits g.row.B c.requires.small, (c.requires.small, (c.requires.may, (c.in-Reads.is, c.in_ok-crowd.ensures))))),
)

pub explain_write-requires : goal.explain_write-requires
explain_write-requires g c = (
  row_fits g.row.B c.requires.small,
  (
    crowd_fits,
    (
      explanation_fits g.row.B c.requires.small,
      (c.requires.small, (c.requires.may, (subst (IsWriteOf c.in-Writes.line) (sym c.in-Writes.is) refl, c.in_ok-crowd.ensures))),
    ),
  ),
)

pub explain_cut-requires : goal.explain_cut-requires
explain_cut-requires g c = (row_fits g.row.B c.requires.small, (crowd_fits, explanation_fits g.row.B c.requires.small))

pub returns-in-Cuts : goal.returns-in-Cuts
returns-in-Cuts g c =
    cut_tells c.args.rules.now c.args.banks.now c.args.before.now c.args.after.now c.args.row c.args.rule c.right_writes_are_told.ensures.cut c.args.one.now c.in_ok-crowd.crowd c.explain_cut.result c.in-Cuts.is
    c.requires.may c.in_ok-crowd.ensures c.explain_cut.ensures
