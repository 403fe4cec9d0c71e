use Rattle.program_laws.proofs.Shown.{shown-law}
use Rattle.program_laws.proofs.images_show_the_newest.Goals as goal

pub returns : goal.returns
returns c = shown-law c.images_are_short.ensures

pub images_are_short-requires : goal.images_are_short-requires
images_are_short-requires c = tt
