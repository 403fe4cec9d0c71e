use Rattle.bank_laws.proofs.Quiet.{wear_law}
use Rattle.bank_laws.proofs.rows.wearing_out_is_final.Goals as goal

pub returns : goal.returns
returns c = wear_law
