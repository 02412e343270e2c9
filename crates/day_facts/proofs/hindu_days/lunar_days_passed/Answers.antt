use Rattle.book_model.specs.sky.HinduFacts.{lunar_days_passed_of}
use Rattle.book_model.proofs.Leads.{leads_on, leaf_within}
use Rattle.day_facts.proofs.HinduRuns.{lunar_days_found}
use Rattle.moon_core.proofs.PhaseRanges.{within_world}
use Rattle.std.proofs.Common.{arith, ◌+◌, ◌*◌, ◌^◌}
use Rattle.day_facts.proofs.HinduWidths.{lunar_within}
use Rattle.std.proofs.lemmas.Result.{err_from_is_err_and}
use Rattle.day_facts.proofs.hindu_days.lunar_days_passed.Goals as goal

pub returns-clause-leads : goal.returns-clause-leads
unfolding lunar_days_passed_of
returns-clause-leads g c = λ w x h.
    let l = c.in_ok-degrees.ensures.leads w x h in
    leads_on _ l (c.floor_step.ensures.leads w _ (c.mul_frac.ensures.encloses.holds w _ (leaf_within l)))

pub returns-clause-near : goal.returns-clause-near
returns-clause-near g c =
    let shown = g.E.Enclosure.shown in
    let p = g.E.Enclosure.proper in
    lunar_days_found shown p c.args.t c.floor_step.result (returns-clause-leads g c _ _ (within_world shown p c.args.t))

pub returns-clause-close : goal.returns-clause-close
returns-clause-close g c = λ v e b h.
    let p = c.in_ok-degrees.ensures.measured v e (omega (arith, b)) h in
    c.floor_step.ensures.close (24 * v + 2 ^ 37 + 2 ^ 9) (omega (arith, b))
    (lunar_within g.E.Enclosure.shown _ (24 * v + 2 ^ 37) c.in_ok-degrees.degrees c.mul_frac.result e p
    (λ r x. c.mul_frac.ensures.encloses.narrow r x))

pub returns-in_err-degrees-clause-close : goal.returns-in_err-degrees-clause-close
returns-in_err-degrees-clause-close g c = λ v e b h.
    let fails = err_from_is_err_and c.from_residual.result c.from_residual.ensures.1 in
    rw (fails.1, fails.2) (c.in_err-degrees.ensures.measured v e (omega (arith, b)) h)
