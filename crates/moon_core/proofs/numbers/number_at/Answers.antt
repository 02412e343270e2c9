use Rattle.moon_core.specs.LinearModels.{number_by}
use Rattle.book_model.proofs.Leads.{leads_on, leaf_within}
use Rattle.moon_core.proofs.numbers.number_at.Goals as goal

pub returns-clause-leads : goal.returns-clause-leads
unfolding number_by
returns-clause-leads g c = λ w x y h k.
    let d = c.in_ok-degrees.ensures.leads w y k in
    leads_on _ d (c.number_of_phase.ensures.leads w x _ h (leaf_within d))

pub returns-clause-close : goal.returns-clause-close
returns-clause-close g c = λ v e b m h. c.number_of_phase.ensures.close v e b m
    (c.in_ok-degrees.ensures.measured v e b h)
