use Rattle.book_model.proofs.Leads.{leads_on, leaf_within}
use Rattle.day_facts.specs.Seasons.{stands_on}
use Rattle.moon_core.proofs.SunOnLinearModel.{answer_decided_at}
use Rattle.day_facts.proofs.seasons.stands_near.Goals as goal

pub returns : goal.returns
unfolding stands_on
returns g c = record {
  leads =
      answer_decided_at g.E.Enclosure.shown (stands_on c.args.side) c.args.t _ _ c.is_on_side.result
      (λ w x h.
      let l = c.in_ok-longitude.ensures.leads w x h in
      leads_on _ l (c.is_on_side.ensures.leads w _ (leaf_within l)));
}
