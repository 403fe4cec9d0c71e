use Rattle.command_line.proofs.Tables.{subcommand-added}
use Rattle.command_line.proofs.table.with_leaf.Goals as goal

pub returns : goal.returns
returns c =
    let leaf = c.in_ok-leaf.ensures in
    subcommand-added c.args.command c.in_ok-leaf.field-0 _ c.subcommand.result leaf.globals leaf.app c.subcommand.ensures
