use Rattle.book_model.specs.sky.Moon.{lunar_angles_of}
use Rattle.sun_core.specs.Daily.{in_centuries}
use Rattle.moon_core.specs.LinearModels.{greatest_terms_of}
use Rattle.moon_core.proofs.linear_models.greatest_by.Goals as goal

pub returns : goal.returns
unfolding greatest_terms_of
returns g c = record {
  holds = λ w x d k. c.greatest_terms.ensures.holds w (lunar_angles_of (in_centuries x)) d k;
}
