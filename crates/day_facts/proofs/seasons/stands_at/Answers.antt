use Rattle.std.proofs.Common.{arith, ◌+◌, ◌*◌, ◌^◌}
use Rattle.book_model.proofs.Leads.{leads_on, leaf_within}
use Rattle.day_facts.specs.Seasons.{stands_on}
use Rattle.day_facts.proofs.seasons.stands_at.Goals as goal

pub returns-clause-leads : goal.returns-clause-leads
unfolding stands_on
returns-clause-leads g c = λ w x h.
    let l = c.in_ok-longitude.ensures.leads w x h in
    leads_on _ l (c.is_on_side.ensures.leads w _ (leaf_within l))

pub returns-clause-close : goal.returns-clause-close
returns-clause-close g c = λ s v e b h. c.is_on_side.ensures.close s (2 * v + 2 ^ 32) e (omega (arith, b))
    (c.in_ok-longitude.ensures.measured v e (omega (arith, b)) h)
