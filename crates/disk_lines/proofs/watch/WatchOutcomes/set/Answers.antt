use Rattle.std.proofs.Common.{◌∙◌, sym}
use Rattle.result_rows.proofs.TableLemmas.{length-with_outcome}
use Rattle.disk_lines.{specs.Hearing.table_in, proofs.Hearing.outcome-set}
use Rattle.ghost_list.specs.Items.{newest}
use Rattle.disk_lines.proofs.watch.WatchOutcomes.set.Goals as goal

pub invariant_of-self : goal.invariant_of-self
invariant_of-self g c =
    let exists = rw (← c.self.view_is) at c.requires.exists in
    let table = table_in (newest c.self.inside.heard) in
    rw c.and.ensures.newest (record {
      few = c.self.invariant.few;
      counted = c.self.invariant.counted;
      size = length-with_outcome table c.args.row c.args.outcome ∙ c.self.invariant.size;
      newest =
          outcome-set table c.self.inside.rows c.args.row c.args.outcome c.self.inside.last c.self.invariant.size c.self.invariant.newest exists ∙ sym c.latest-self-inside.ensures;
    })
