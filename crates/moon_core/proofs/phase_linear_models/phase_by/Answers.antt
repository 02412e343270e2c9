use Rattle.book_model.specs.sky.Phases.{phase_of}
use Rattle.book_model.proofs.Leads.{leads_on, leaf_within}
use Rattle.sun_core.proofs.OnLinearModel.{answer_follows}
use Rattle.moon_core.proofs.phase_linear_models.phase_by.Goals as goal

pub returns : goal.returns
unfolding phase_of
returns g c = record {
  leads =
      answer_follows g.E.Enclosure.shown phase_of c.args.t _ _ c.corrected_by.result
      (λ w x h.
      let l = c.in_ok-by_longitudes.ensures.leads w x h in
      leads_on _ l (c.corrected_by.ensures.leads w x _ h (leaf_within l)));
}
