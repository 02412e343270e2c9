use Rattle.book_model.specs.sky.Moon.{moon_longitude_of}
use Rattle.sun_core.specs.Daily.{in_centuries}
use Rattle.sun_core.proofs.OnLinearModel.{answer_follows}
use Rattle.moon_core.specs.Elements.{reduced_longitude_of}
use Rattle.moon_core.proofs.linear_models.moon_on.Goals as goal

pub returns : goal.returns
unfolding reduced_longitude_of
returns g c = record {
  leads =
      answer_follows g.E.Enclosure.shown (λ x. reduced_longitude_of (in_centuries x)) c.args.days _ _ c.wrap_step.result
      (λ w x h. c.wrap_step.ensures.leads w (moon_longitude_of (in_centuries x)) (c.longitude_on.ensures.holds w x h));
}
