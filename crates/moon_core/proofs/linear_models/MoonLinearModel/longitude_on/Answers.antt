use Rattle.book_model.specs.sky.Moon.{moon_longitude_of}
use Rattle.sun_core.proofs.OnLinearModel.{stretched}
use Rattle.moon_core.proofs.linear_models.MoonLinearModel.longitude_on.Goals as goal

pub returns : goal.returns
unfolding moon_longitude_of
returns g c = record {
  holds =
      λ w x h.
      let k = stretched c.requires.there h in
      let mean = c.quartic_by.ensures.holds w x h (c.self.invariant.higher w x (rw c.self.view_is k)).longitude in
      let ahead = c.mul_frac.ensures.encloses.holds w _ (c.inequalities_on.ensures.holds w x h) in
      c.add-2.ensures.encloses.holds w _ _ (c.add.ensures.encloses.holds w _ _ mean ahead)
      (c.self.invariant.nutation w x (rw c.self.view_is k));
}
