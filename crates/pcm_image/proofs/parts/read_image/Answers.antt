use Rattle.std.proofs.Common.{ap, subst, ◌∙◌, arith}
use Rattle.pcm_image.{specs.Giving.Gives, specs.Reading.image_of, proofs.Whole.{is_found, is_sized, image_again}}
use Rattle.pcm_image.proofs.parts.read_image.Goals as goal

pub returns-clause-size : goal.returns-clause-size
returns-clause-size g c = is_sized c.args.bytes.now c.whole.result c.requires.whole (λ i. omega (arith, c.type_inv.bytes i)) c.whole.ensures

pub returns-clause-found : goal.returns-clause-found
returns-clause-found g c = is_found c.args.bytes.now c.whole.result c.requires.whole (λ i. omega (arith, c.type_inv.bytes i)) c.whole.ensures

pub returns-clause-only : goal.returns-clause-only
returns-clause-only g c = λ sized s saved e. subst (λ f. Gives (λ image. image) c.whole.result f) (ap (image_of g.row.B g.row.M) e ∙ image_again g.row.B g.row.M c.requires.whole c.requires.few sized s saved) c.whole.ensures
