use Rattle.book_model.specs.sky.Moon.{inequalities_of}
use Rattle.sun_core.proofs.OnLinearModel.{stretched}
use Rattle.moon_core.proofs.linear_models.MoonLinearModel.inequalities_on.Goals as goal

pub returns : goal.returns
unfolding inequalities_of
returns g c = record {
  holds =
      λ w x h.
      let k = stretched c.requires.there h in
      let venus = c.add.ensures.encloses.holds w _ _ (c.terms_on.ensures.holds w x h)
      (c.self.invariant.venus w x (rw c.self.view_is k)) in
      let jupiter = c.add-2.ensures.encloses.holds w _ _ venus (c.self.invariant.jupiter w x (rw c.self.view_is k)) in
      c.add-3.ensures.encloses.holds w _ _ jupiter (c.self.invariant.flattening w x (rw c.self.view_is k));
}
