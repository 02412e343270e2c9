use Rattle.book_model.specs.sky.Sidereal.{sidereal_sun_of}
use Rattle.book_model.proofs.Leads.{leads_on, leaf_within}
use Rattle.sun_core.proofs.OnLinearModel.{answer_follows}
use Rattle.sun_core.proofs.stars.sidereal_sun_by.Goals as goal

pub returns : goal.returns
unfolding sidereal_sun_of
returns g c = record {
  leads =
      answer_follows g.E.Enclosure.shown sidereal_sun_of c.args.t _ _ c.wrapped_sidereal.result
      (λ w x h.
      let s = c.in_ok-longitude.ensures.leads w x h in
      let p = c.in_ok-moved.ensures.leads w x h in
      leads_on _ s
      (leads_on _ p (c.wrapped_sidereal.ensures.leads w _ (c.sidereal_by.ensures.encloses.holds w _ _ (leaf_within s)
      (leaf_within p)))));
}
