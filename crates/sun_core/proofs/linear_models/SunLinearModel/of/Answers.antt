use Rattle.sun_core.specs.Daily.{in_centuries}
use Rattle.sun_core.proofs.linear_models.SunLinearModel.of.Goals as goal

pub invariant_of-result : goal.invariant_of-result
unfolding in_centuries
invariant_of-result g c = record {
  other_terms = c.other_sun_terms.ensures.holds;
  aberration = c.aberration.ensures.holds;
  nutation = λ w x h. c.nutation.ensures.encloses.holds w _ (c.mul_frac.ensures.encloses.holds w _ h);
}
