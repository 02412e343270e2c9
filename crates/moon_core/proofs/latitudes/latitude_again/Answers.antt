use Rattle.book_model.specs.programs.Programs.{answer}
use Rattle.book_model.specs.sky.Latitude.{latitude_of, latitude_at_of}
use Rattle.book_model.proofs.Leads.{leads_answer}
use Rattle.moon_core.proofs.MomentElements.{by_elements}
use Rattle.moon_core.proofs.latitudes.latitude_again.Goals as goal

pub returns-clause-leads : goal.returns-clause-leads
unfolding latitude_of
returns-clause-leads g c = λ w x h.
    rw c.step.ensures.counted (by_elements (λ v. answer (latitude_at_of v)) (h.again _)
    (λ d k. leads_answer (c.latitude_at.ensures.holds w d k)))
