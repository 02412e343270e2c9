use Rattle.sun_core.proofs.OnLinearModel.{stretched}
use Rattle.moon_core.proofs.OnLinearModel.{all_terms}
use Rattle.moon_core.proofs.linear_models.MoonLinearModel.terms_on.Goals as goal

pub returns : goal.returns
returns g c = record {
  holds =
      λ w x h. all_terms x (c.add.ensures.encloses.holds w _ _
      (c.greatest_by.ensures.holds w x h.deep (c.angles_on.ensures.holds w x h))
      (c.self.invariant.terms w x (rw c.self.view_is (stretched c.requires.there h))));
}
