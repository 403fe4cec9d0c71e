use Rattle.std.proofs.Common.{sym, ◌∙◌}
use Rattle.pcm_library.proofs.Masks.{masked-lawful}
use Rattle.pcm_library.proofs.masking.masked.Goals as goal

pub returns-clause-lawful : goal.returns-clause-lawful
returns-clause-lawful g c = λ lines below. (
  below,
  rw c.lay_over.ensures (masked-lawful g.row.B c.args.bytes.now c.args.given.now c.told-bytes c.told-given (sym c.has_some.ensures ∙ c.if-not-has_some.false)),
)
