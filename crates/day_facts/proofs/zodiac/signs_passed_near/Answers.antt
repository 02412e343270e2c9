use Rattle.book_model.specs.sky.Sidereal.{signs_passed_of}
use Rattle.book_model.proofs.Leads.{leads_on, leaf_within}
use Rattle.moon_core.proofs.SunOnLinearModel.{answer_decided_at}
use Rattle.day_facts.specs.Counts.{whole_signs_of}
use Rattle.day_facts.proofs.zodiac.signs_passed_near.Goals as goal

pub returns : goal.returns
unfolding signs_passed_of whole_signs_of
returns g c = record {
  leads =
      answer_decided_at g.E.Enclosure.shown signs_passed_of c.args.t _ _ c.whole_signs.result
      (λ w x h.
      let l = c.in_ok-longitude.ensures.leads w x h in
      leads_on _ l (c.whole_signs.ensures.leads w _ (leaf_within l)));
}
