use Rattle.place_laws.proofs.Places.{place_law}
use Rattle.place_laws.proofs.places_keep_their_law.Goals as goal

pub returns : goal.returns
returns c = place_law
