use Rattle.std.proofs.lemmas.Result.{err_from_is_err_and}
use Rattle.moon_core.proofs.MoonPlaces.{fails_as, leads_as}
use Rattle.moon_core.proofs.phases.phase.Goals as goal

pub returns-clause-leads : goal.returns-clause-leads
returns-clause-leads g c = λ w x h. leads_as (c.in_ok-placed.ensures.leads w x h) (λ v r. r)

pub returns-in_err-placed-clause-leads : goal.returns-in_err-placed-clause-leads
returns-in_err-placed-clause-leads g c = λ w x h.
    let fails = err_from_is_err_and c.from_residual.result c.from_residual.ensures.1 in
    rw (fails.1, fails.2) (fails_as (c.in_err-placed.ensures.leads w x h))
