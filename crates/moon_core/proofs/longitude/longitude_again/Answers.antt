use Rattle.moon_core.proofs.longitude.longitude_again.Goals as goal

pub returns-clause-leads : goal.returns-clause-leads
returns-clause-leads g c = λ w x h. rw (c.step-2.ensures.counted, c.step.ensures.counted) (h.longitude _)
