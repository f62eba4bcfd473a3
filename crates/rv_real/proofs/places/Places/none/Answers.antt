use Rattle.rv_real.proofs.inside.Keys.{none_yet}
use Rattle.rv_real.proofs.places.Places.none.Goals as goal

pub returns : goal.returns
returns c = none_yet
