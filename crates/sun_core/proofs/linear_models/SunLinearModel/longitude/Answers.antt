use Rattle.book_model.specs.sky.Sun.{longitude_of}
use Rattle.sun_core.specs.Steps.{mean_longitude_of, periodic_of}
use Rattle.sun_core.proofs.OnLinearModel.{stretched}
use Rattle.sun_core.proofs.linear_models.SunLinearModel.longitude.Goals as goal

pub returns : goal.returns
unfolding longitude_of mean_longitude_of periodic_of
returns g c = record {
  holds =
      λ w x h.
      let k = stretched c.requires.there h in
      c.add-3.ensures.encloses.holds w _ _
      (c.add-2.ensures.encloses.holds w _ _ (c.add.ensures.encloses.holds w _ _ (c.mean_longitude.ensures.holds w x h)
      (c.periodic.ensures.holds w x h)) (c.self.invariant.aberration w x (rw c.self.view_is k)))
      (c.self.invariant.nutation w x (rw c.self.view_is k));
}
