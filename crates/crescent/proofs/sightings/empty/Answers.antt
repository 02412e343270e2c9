use Rattle.crescent.proofs.KnownEvenings.{none}
use Rattle.crescent.proofs.sightings.empty.Goals as goal

pub new-requires : goal.new-requires
new-requires c = none
