use Rattle.std.proofs.Common.{rules, SFits, w64, arith}
use Rattle.std.proofs.lemmas.Int.{to_z-of_z}
use Rattle.std.proofs.lemmas.Result.{err_from_is_err_and}
use Rattle.book_model.specs.sky.Horizon.{approximation_of}
use Rattle.book_model.proofs.Leads.{leads_bind_exact}
use Rattle.rise_set.proofs.Measured.{mean_about}
use Rattle.rise_set.proofs.approximation.approximation.Goals as goal

pub returns-clause-leads : goal.returns-clause-leads
unfolding approximation_of
returns-clause-leads g c = λ w a x h k.
    let f : SFits w64 c.in_ok-day.day = search rules in
    leads_bind_exact _ (c.in_ok-day.ensures.leads w x k)
    (simp to_z-of_z at (c.approximation_on.ensures.leads w a x h k))

pub returns-clause-measured : goal.returns-clause-measured
returns-clause-measured g c = λ p v e b h.
    let f : SFits w64 c.in_ok-day.day = search rules in
    let m = simp to_z-of_z at c.approximation_on.ensures.measured in
    m p c.in_ok-day.ensures.decided v e b h

pub returns-in_err-day-clause-measured : goal.returns-in_err-day-clause-measured
returns-in_err-day-clause-measured g c = λ p v e b h.
    let fails = err_from_is_err_and c.from_residual.result c.from_residual.ensures.1 in
    rw (fails.1, fails.2) (c.in_err-day.ensures.close v (omega (arith, b)) (mean_about v _ h))
