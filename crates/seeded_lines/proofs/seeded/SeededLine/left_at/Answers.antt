use Rattle.std.proofs.Common.{◌∙◌, sym}
use Rattle.seeded_lines.proofs.{SeededLemmas.left_is, SizeLemmas.{counts_fit, digits_fit}}
use Rattle.seeded_lines.proofs.seeded.SeededLine.left_at.Goals as goal

pub returns : goal.returns
returns g c =
    rw (← c.self.view_is)
    (c.saturating_sub.ensures ∙ rw (c.get.ensures, c.get-2.ensures) (sym (left_is c.self.inside.moving.spent c.self.inside.settled.left c.args.number c.requires)))

pub get-requires : goal.get-requires
get-requires g c = (counts_fit c.self.invariant.0, c.requires)

pub get-requires-2 : goal.get-requires-2
get-requires-2 g c = (digits_fit c.self.invariant.0, c.requires)

pub saturating_sub-requires : goal.saturating_sub-requires
saturating_sub-requires g c = tt
