use Rattle.std.proofs.Common.{arith, ◌+◌, ◌*◌, ◌^◌}
use Rattle.std.proofs.lemmas.Result.{err_from_is_err_and}
use Rattle.book_model.specs.sky.Crescent.{meets_at_of}
use Rattle.book_model.proofs.Leads.{leads_bind, leads_fail}
use Rattle.crescent.proofs.Evenings.{dated_evening, angle_within}
use Rattle.crescent.proofs.criterion.meets_at.Goals as goal

pub returns-clause-close : goal.returns-clause-close
returns-clause-close g c = λ e p h.
    let f = angle_within (24 * (9 * 2 ^ 29) + 2 ^ 37) _ (omega arith)
    (c.in_ok-young.ensures.measured (9 * 2 ^ 29) e (omega arith) h) in
    c.meets_with.ensures.close e p (dated_evening _ c.in_ok-tilt.ensures.in_table h) f
    (c.in_ok-tilt.ensures.measured (9 * 2 ^ 29) e (omega arith) h)
    (c.in_ok-young.ensures.placed (9 * 2 ^ 29) e (omega arith) h)

pub returns-clause-leads : goal.returns-clause-leads
unfolding meets_at_of
returns-clause-leads g c = λ w x h.
    leads_bind (c.in_ok-young.ensures.leads w x h)
    (λ f j. leads_bind (c.in_ok-tilt.ensures.leads w x h)
    (λ o k. c.meets_with.ensures.leads w x f o (c.in_ok-young.ensures.again w x h) h j k))

pub returns-in_err-tilt-clause-leads : goal.returns-in_err-tilt-clause-leads
unfolding meets_at_of
returns-in_err-tilt-clause-leads g c = λ w x h.
    let fails = err_from_is_err_and c.from_residual-in_err-tilt.result c.from_residual-in_err-tilt.ensures.1 in
    rw (fails.1, fails.2) (leads_bind (c.in_ok-young.ensures.leads w x h)
    (λ f j. leads_fail _ (c.in_err-tilt.ensures.leads w x h)))
