use Rattle.book_model.specs.sky.Moon.{lunar_angles_of}
use Rattle.sun_core.proofs.OnLinearModel.{stretched}
use Rattle.moon_core.proofs.linear_models.MoonLinearModel.angles_on.Goals as goal

pub returns : goal.returns
unfolding lunar_angles_of
returns g c = record {
  holds =
      λ w x h.
      let k = c.self.invariant.angles w x (rw c.self.view_is (stretched c.requires.there h)) in
      let b = c.self.invariant.higher w x (rw c.self.view_is (stretched c.requires.there h)) in
      record {
        elongation = c.quartic_by.ensures.holds w x h b.elongation;
        sun_anomaly = k.sun_anomaly;
        moon_anomaly = c.quartic_by-2.ensures.holds w x h b.moon_anomaly;
        latitude_argument = k.latitude_argument;
        eccentricity = k.eccentricity;
      };
}
