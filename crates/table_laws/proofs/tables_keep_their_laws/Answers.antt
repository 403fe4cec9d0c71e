use Rattle.table_laws.proofs.tables_keep_their_laws.Goals as goal

pub returns : goal.returns
returns c = λ n m e shape pace xs sized lawful idle. record {
  served = c.reads_are_served.ensures n m e shape pace xs lawful idle;
  queue = c.rows_are_fair_to_the_queue.ensures n m e shape pace xs sized lawful idle;
  wear = (c.wearing_out_is_final.ensures n m e shape pace xs sized lawful).final;
  earned = (c.wearing_out_is_final.ensures n m e shape pace xs sized lawful).earned;
  ticks = c.rows_are_in_time.ensures n m e shape pace xs sized lawful idle;
}
