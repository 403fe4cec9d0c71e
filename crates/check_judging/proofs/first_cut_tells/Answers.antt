use Rattle.check_judging.proofs.Cuts.{first_cut_law, cuts_of_bank_law}
use Rattle.check_judging.proofs.first_cut_tells.Goals as goal

pub returns : goal.returns
returns c = record { first = first_cut_law; of_bank = cuts_of_bank_law }
