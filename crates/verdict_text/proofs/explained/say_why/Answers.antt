use Rattle.verdict_text.proofs.Sizes.{crowds_fit, finds_fit}
use Rattle.verdict_text.proofs.explained.say_why.Goals as goal

pub say_right-requires : goal.say_right-requires
say_right-requires g c = (finds_fit g.row.B c.requires.size, (crowds_fit, c.requires.size))

pub returns : goal.returns
returns g c = rw c.in_ok-say_facts.ensures at c.say_right.ensures
