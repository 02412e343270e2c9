use Rattle.book_model.specs.programs.Programs.{answer}
use Rattle.book_model.specs.sky.Distance.{distance_of, distance_by}
use Rattle.book_model.specs.sky.Moon.{lunar_angles_of}
use Rattle.book_model.proofs.Leads.{leads_answer}
use Rattle.moon_core.proofs.MomentElements.{by_elements}
use Rattle.moon_rise.proofs.distances.distance_again.Goals as goal

pub returns-clause-leads : goal.returns-clause-leads
unfolding distance_of
returns-clause-leads g c = λ w x h.
    rw c.step.ensures.counted
    (by_elements (λ v. answer (distance_by (lunar_angles_of v))) (h.again _)
    (λ d k. leads_answer (c.distance_at.ensures.holds w d k)))
