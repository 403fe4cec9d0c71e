use Rattle.std.proofs.Common.{arith}
use Rattle.check_telling.proofs.Sizes.{row_fits}
use Rattle.verdict_telling.proofs.{Banks.line_asked, Sizes.outcome_fits, Telling.write_tells}
use Rattle.verdict_telling.proofs.row.explain_write.Goals as goal

pub find_write-requires : goal.find_write-requires
find_write-requires g c =
    let may = c.requires.may in (
      row_fits g.row.B c.requires.small,
      (
        omega arith,
        (c.requires.small, (may.few, (may.limits, (line_asked c.args.banks.now c.args.line c.args.one.now.asks c.requires.asks may.own, (may.past, may.later))))),
      ),
    )

pub find_counts-requires : goal.find_counts-requires
find_counts-requires g c =
    let may = c.requires.may in
    let line = line_asked c.args.banks.now c.args.line c.args.one.now.asks c.requires.asks may.own in (
      row_fits g.row.B c.requires.small,
      (outcome_fits g.row.B c.requires.small, (c.requires.small, (may.few, (may.limits, (line, (may.past, (may.later, may.tick))))))),
    )

pub find_near-requires : goal.find_near-requires
find_near-requires g c =
    let may = c.requires.may in
    let few = may.few in
    let line = line_asked c.args.banks.now c.args.line c.args.one.now.asks c.requires.asks may.own in (
      row_fits g.row.B c.requires.small,
      (outcome_fits g.row.B c.requires.small, (c.requires.small, (omega (arith, few), (line, may.past)))),
    )

pub returns : goal.returns
returns g c =
    write_tells c.args.rules.now c.args.banks.now c.args.before.now c.args.after.now c.args.row c.args.rule c.right_writes_are_told.ensures.write c.args.one.now c.args.line c.write_clause-clause.result c.args.crowd
    c.is_room-room.result c.is_told-worn.result c.late_of-late.result c.in_ok-found.found c.in_ok-near.near c.in_ok-counts.counts c.requires.asks c.requires.may c.requires.crowd
    c.is_room-room.ensures c.in_ok-found.ensures c.is_told-worn.ensures c.late_of-late.ensures c.in_ok-counts.ensures c.write_clause-clause.ensures c.in_ok-near.ensures
