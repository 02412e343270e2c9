use Rattle.sun_core.proofs.OnLinearModel.{stretched}
use Rattle.moon_core.proofs.picked_longitudes.PickedLongitudes.picks.Goals as goal

pub returns-clause-leads : goal.returns-clause-leads
returns-clause-leads g c = λ so w x p h k.
    rw c.count_again.ensures.counted
    (c.self.invariant.again w x p (stretched (c.if-not-lies_within.ensures.within so) h)
    (stretched (c.if-not-lies_within-2.ensures.within so) k) c.args.by_longitudes k _)
