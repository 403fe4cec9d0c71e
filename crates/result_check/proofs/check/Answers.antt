use Rattle.std.proofs.Common.{◌∙◌, arith}
use Rattle.trace_rows.specs.Rows.{rows_with}
use Rattle.result_check.proofs.{Checking.table_of, Going.goes_first}
use Rattle.result_check.proofs.check.Goals as goal
use Rattle.trace_reader.proofs.Sizes.{event_fits}

pub of-requires : goal.of-requires
of-requires g c =
    let h = c.requires.checkable in
    (event_fits g.row.B c.requires.small, (omega arith, (c.requires.small, (table_of c.args.events.now c.args.results.now c.args.banks.now c.args.rules.now h, (h.few, h.rows)))))

pub look_ahead-requires : goal.look_ahead-requires
look_ahead-requires g c =
    let h = c.requires.checkable in
    (event_fits g.row.B c.requires.small, (omega arith, (c.requires.small, (table_of c.args.events.now c.args.results.now c.args.banks.now c.args.rules.now h, (h.few, h.rows)))))

pub pass_rows-requires : goal.pass_rows-requires
pass_rows-requires g c =
    let h = c.requires.checkable in
    let table = table_of c.args.events.now c.args.results.now c.args.banks.now c.args.rules.now h in
    let k = c.in_ok-kept.ensures in (
      event_fits g.row.B c.requires.small,
      (
        omega arith,
        (
          omega arith,
          (
            c.requires.small,
            (
              h.within,
              (
                h.few,
                (
                  h.rows,
                  (
                    table,
                    (
                      c.in_ok-found.ensures,
                      (
                        c.deref.ensures.value ∙ c.in_ok-coming.ensures,
                        goes_first c.args.rules.now c.args.banks.now (rows_with c.args.events.now c.args.results.now) c.in_ok-found.found c.in_ok-kept.kept.banks.items c.in_ok-kept.kept.joined c.in_ok-kept.kept.lines.items
                            table c.in_ok-found.ensures k.number k.facts k.lines k.fresh k.joined,
                      ),
                    ),
                  ),
                ),
              ),
            ),
          ),
        ),
      ),
    )
