use Rattle.image_laws.proofs.Sizes.{short_image_law}
use Rattle.image_laws.proofs.images_are_short.Goals as goal

pub returns : goal.returns
returns c = short_image_law
