use Rattle.std.proofs.Common.{◌≡◌, ◌-◌, ◌∷◌, drop, length, sym, ◌∙◌}
use Rattle.std.proofs.lemmas.Result.{IfOk-weaker}
use Rattle.check_telling.proofs.Sizes.{row_fits}
use Rattle.verdict_telling.proofs.{Named.may_tell, Sizes.explanation_fits, Tables.{before_it, row_left, row_within}, Telling.tells_of}
use Rattle.verdict_telling.proofs.explain_row.Goals as goal

pub overflow_sub-row : goal.overflow_sub-row
overflow_sub-row g c = (row_within c.args.rules.now c.args.banks.now c.args.rows.now c.args.row c.args.rule c.requires.table.named).0

pub split_at-requires : goal.split_at-requires
split_at-requires g c =
    before_it c.args.row (length c.args.rows.now) (row_within c.args.rules.now c.args.banks.now c.args.rows.now c.args.row c.args.rule c.requires.table.named)

pub unreachable-requires : goal.unreachable-requires
unreachable-requires g c =
    row_left c.args.row c.args.rows.now c.split_at.result.1.now (row_within c.args.rules.now c.args.banks.now c.args.rows.now c.args.row c.args.rule c.requires.table.named)
    c.split_at.ensures.back c.in_default.ensures.cases

pub explain_one-requires : goal.explain_one-requires
explain_one-requires g c =
    let here : drop (c.args.row - 1) c.args.rows.now ≡ c.in-Some.one.now ∷ c.in-Some.after.now = sym c.split_at.ensures.back ∙ c.in-Some.ensures.cases.0 in (
      row_fits g.row.B c.requires.small,
      (
        explanation_fits g.row.B c.requires.small,
        (
          c.requires.small,
          may_tell c.args.rules.now c.args.banks.now c.args.rows.now c.args.row c.args.rule c.split_at.result.0.now c.in-Some.one.now c.in-Some.after.now c.requires.table c.split_at.ensures.front
              here,
        ),
      ),
    )

pub returns : goal.returns
returns g c =
    let rows = c.args.rows.now in
    let here : drop (c.args.row - 1) rows ≡ c.in-Some.one.now ∷ c.in-Some.after.now = sym c.split_at.ensures.back ∙ c.in-Some.ensures.cases.0 in
    let within = row_within c.args.rules.now c.args.banks.now rows c.args.row c.args.rule c.requires.table.named in
    IfOk-weaker c.explain_one.result _ _
    (λ e is. tells_of c.args.rules.now c.args.banks.now rows c.args.row c.args.rule c.split_at.result.0.now c.in-Some.one.now c.in-Some.after.now e within.0 c.split_at.ensures.front here is)
    c.explain_one.ensures
