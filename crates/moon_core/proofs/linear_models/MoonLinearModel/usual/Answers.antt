use Rattle.sun_core.specs.Daily.{in_centuries}
use Rattle.moon_core.proofs.linear_models.MoonLinearModel.usual.Goals as goal

pub of-requires : goal.of-requires
unfolding in_centuries
of-requires g c = record {
  nutation = λ w x h. c.nutation.ensures.encloses.holds w _
      (c.mul_frac.ensures.encloses.holds w x h);
}
