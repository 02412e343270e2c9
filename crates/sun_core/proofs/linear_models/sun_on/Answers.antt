use Rattle.book_model.specs.sky.Sun.{longitude_of}
use Rattle.sun_core.specs.Daily.{in_centuries}
use Rattle.sun_core.specs.Longitudes.{reduced_sun_of}
use Rattle.sun_core.proofs.OnLinearModel.{answer_follows}
use Rattle.sun_core.proofs.linear_models.sun_on.Goals as goal

pub returns : goal.returns
unfolding reduced_sun_of
returns g c = record {
  leads =
      answer_follows g.E.Enclosure.shown (λ x. reduced_sun_of (in_centuries x)) c.args.days _ _ c.wrap_step.result
      (λ w x h. c.wrap_step.ensures.leads w (longitude_of (in_centuries x)) (c.longitude.ensures.holds w x h));
}
