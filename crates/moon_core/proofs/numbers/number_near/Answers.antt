use Rattle.book_model.proofs.Leads.{leads_on, leaf_within}
use Rattle.sun_core.proofs.Passed.{answer_decides}
use Rattle.moon_core.specs.LinearModels.{number_by}
use Rattle.moon_core.proofs.numbers.number_near.Goals as goal

pub returns : goal.returns
unfolding number_by
returns g c = record {
  leads =
      answer_decides g.E.Enclosure.shown number_by c.args.months c.args.t _ _ c.number_of_phase.result
      (λ w x y h k.
      let d = c.in_ok-degrees.ensures.leads w y k in
      leads_on _ d (c.number_of_phase.ensures.leads w x _ h (leaf_within d)));
}
