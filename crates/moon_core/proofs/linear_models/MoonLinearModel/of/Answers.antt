use Rattle.sun_core.specs.Daily.{in_centuries}
use Rattle.moon_core.proofs.linear_models.MoonLinearModel.of.Goals as goal

pub by-requires-clause-higher : goal.by-requires-clause-higher
unfolding in_centuries
by-requires-clause-higher g c = λ w x h. c.higher_terms-higher.ensures.holds w _
    (c.mul_frac-c.ensures.encloses.holds w x h)

pub by-requires-clause-angles : goal.by-requires-clause-angles
unfolding in_centuries
by-requires-clause-angles g c = λ w x h. c.angles_by.ensures.holds w x h (c.mul_frac-c.ensures.encloses.holds w x h)
    (c.higher_terms-higher.ensures.holds w _ (c.mul_frac-c.ensures.encloses.holds w x h))
