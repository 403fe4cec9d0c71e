use Rattle.std.proofs.Common.{ap, subst, ◌∙◌, arith}
use Rattle.pcm_image.specs.Giving.{Gives}
use Rattle.large_reader.{specs.Reading.large_of, proofs.Whole.{is_found, is_sized, large_again}}
use Rattle.large_reader.proofs.parts.read_large.Goals as goal

pub returns-clause-size : goal.returns-clause-size
returns-clause-size g c = is_sized c.args.bytes.now c.whole.result c.requires.size.whole (λ i. omega (arith, c.type_inv.bytes i)) c.whole.ensures

pub returns-clause-found : goal.returns-clause-found
returns-clause-found g c = is_found c.args.bytes.now c.whole.result c.requires.size.whole (λ i. omega (arith, c.type_inv.bytes i)) c.whole.ensures

pub returns-clause-only : goal.returns-clause-only
returns-clause-only g c = λ sized s saved e. subst (λ f. Gives (λ image. image) c.whole.result f) (ap (large_of g.row.B g.row.M) e ∙ large_again g.row.B g.row.M c.requires.size.whole c.requires.size.few sized s saved) c.whole.ensures
