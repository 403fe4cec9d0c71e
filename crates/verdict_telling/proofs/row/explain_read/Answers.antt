use Rattle.std.proofs.Common.{length, subst, arith}
use Rattle.row_rules.specs.Lines.{IsOfLines}
use Rattle.check_telling.proofs.Sizes.{row_fits, grounds_fits}
use Rattle.verdict_telling.proofs.{Sizes.outcome_fits, Telling.read_tells}
use Rattle.verdict_telling.proofs.row.explain_read.Goals as goal

pub find_grounds-requires : goal.find_grounds-requires
find_grounds-requires g c =
    let may = c.requires.may in (
      row_fits g.row.B c.requires.small,
      (
        grounds_fits g.row.B c.requires.small,
        (c.requires.small, (may.few, (may.limits, (subst (IsOfLines (length c.args.banks.now)) c.requires.asks may.own, (may.past, (may.later, (may.brief, may.tick))))))),
      ),
    )

pub returns : goal.returns
returns g c =
    read_tells c.args.rules.now c.args.banks.now c.args.before.now c.args.after.now c.args.row c.args.rule c.right_reads_are_told.ensures c.args.one.now c.args.line c.read_clause-clause.result c.args.crowd
    c.is_room.result c.in_ok-found.found c.in_ok-near.near c.stale_of-stale.result c.requires.asks c.requires.may c.requires.crowd c.is_room.ensures c.in_ok-found.ensures
    c.read_clause-clause.ensures c.in_ok-near.ensures c.stale_of-stale.ensures

pub read_clause-clause-requires : goal.read_clause-clause-requires
read_clause-clause-requires g c = (grounds_fits g.row.B c.requires.small, (outcome_fits g.row.B c.requires.small, c.requires.may.tick))

pub find_near-requires : goal.find_near-requires
find_near-requires g c =
    let may = c.requires.may in
    let few = may.few in (
      row_fits g.row.B c.requires.small,
      (
        outcome_fits g.row.B c.requires.small,
        (c.requires.small, (omega (arith, few), (subst (IsOfLines (length c.args.banks.now)) c.requires.asks may.own, may.past))),
      ),
    )
