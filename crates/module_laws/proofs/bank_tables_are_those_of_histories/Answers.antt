use Rattle.module_laws.proofs.Tables.{bank_table_law}
use Rattle.module_laws.proofs.bank_tables_are_those_of_histories.Goals as goal

pub returns : goal.returns
returns c = bank_table_law
