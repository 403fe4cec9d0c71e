use Rattle.stream_laws.proofs.Drawing.{every_bank_law}
use Rattle.stream_laws.proofs.what_is_drawn_for_every_bank_is_all.Goals as goal

pub returns : goal.returns
returns c = every_bank_law
