use Rattle.sun_core.proofs.OnLinearModel.{stretched}
use Rattle.moon_core.proofs.phase_linear_models.PhaseLinearModel.over_moments.Goals as goal

pub of-requires : goal.of-requires
of-requires g c = record {
  nutation = λ w x h. c.nutation.ensures.holds w x (stretched c.sun_over-sun.ensures.there h);
}
