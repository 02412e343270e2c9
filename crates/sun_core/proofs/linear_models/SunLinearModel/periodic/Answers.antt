use Rattle.sun_core.specs.Steps.{periodic_of}
use Rattle.sun_core.proofs.OnLinearModel.{stretched, all_sun_terms}
use Rattle.sun_core.proofs.Scalings.{unit_holds}
use Rattle.sun_core.proofs.linear_models.SunLinearModel.periodic.Goals as goal

pub returns : goal.returns
unfolding periodic_of
returns g c = record {
  holds =
      λ w x h.
      let k = stretched c.requires.there h in
      let other_terms = all_sun_terms x (c.add.ensures.encloses.holds w _ _ (c.greatest_sun_terms.ensures.holds w x h)
      (c.self.invariant.other_terms w x (rw c.self.view_is k))) in
      unit_holds g.E.Enclosure.shown w _ _ (c.mul_frac-2.ensures.encloses.holds w _
      (c.mul_frac.ensures.encloses.holds w _ other_terms));
}
