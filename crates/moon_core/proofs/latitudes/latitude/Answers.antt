use Rattle.book_model.specs.programs.Programs.{answer}
use Rattle.book_model.specs.sky.Latitude.{latitude_of, latitude_at_of}
use Rattle.book_model.proofs.Leads.{leads_answer}
use Rattle.moon_core.proofs.MomentElements.{by_elements}
use Rattle.moon_core.proofs.latitudes.latitude.Goals as goal

pub returns-clause-leads : goal.returns-clause-leads
unfolding latitude_of
returns-clause-leads g c = λ w x h.
    by_elements (λ v. answer (latitude_at_of v)) (c.in_ok-elements.ensures.leads w x h)
    (λ d k. leads_answer (c.latitude_at.ensures.holds w d k))

pub returns-clause-measured : goal.returns-clause-measured
returns-clause-measured g c = λ v e b h. c.latitude_at.ensures.measured v e (c.in_ok-elements.ensures.measured v e b h)
