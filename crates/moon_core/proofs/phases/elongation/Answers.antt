use Rattle.std.proofs.Common.{arith, ◌+◌, ◌*◌, ◌^◌}
use Rattle.std.proofs.lemmas.Result.{err_from_is_err_and}
use Rattle.book_model.specs.sky.Phases.{elongation_of}
use Rattle.book_model.proofs.Leads.{leads_bind, leads_fail, leads_on, leaf_within}
use Rattle.moon_core.proofs.Measured.{elongation_within}
use Rattle.moon_core.proofs.MoonPlaces.{fails_as, leads_as}
use Rattle.moon_core.proofs.phases.elongation.Goals as goal

pub returns-clause-leads : goal.returns-clause-leads
unfolding elongation_of
returns-clause-leads g c = λ w x h.
    let s = c.in_ok-longitude.ensures.leads w x h in
    leads_bind (c.in_ok-place.ensures.leads w x h)
    (λ l i. leads_on _ s
    (leads_as (c.in_ok-angle.ensures.leads w _ (c.sub.ensures.encloses.holds w _ _ i (leaf_within s))) (λ v r. r)))

pub returns-clause-measured : goal.returns-clause-measured
returns-clause-measured g c = λ v e b h.
    let m = c.in_ok-place.ensures.measured v e b h in
    let s = c.in_ok-longitude.ensures.measured v e (omega (arith, b)) h in
    c.in_ok-angle.ensures.measured (22 * v + 17 * 2 ^ 32) e (omega (arith, b))
    (elongation_within g.E.Enclosure.shown _ v c.in_ok-place.place.longitude c.in_ok-longitude.longitude c.sub.result e
    m.longitude s
    (λ r p q. c.sub.ensures.encloses.narrow r p q))

pub returns-clause-wide : goal.returns-clause-wide
returns-clause-wide g c = λ v e b h.
    let m = c.in_ok-place.ensures.wide v e b h in
    let s = c.in_ok-longitude.ensures.measured v e (omega (arith, b)) h in
    c.in_ok-angle.ensures.wide (22 * v + 17 * 2 ^ 32) e (omega (arith, b))
    (elongation_within g.E.Enclosure.shown _ v c.in_ok-place.place.longitude c.in_ok-longitude.longitude c.sub.result e
    m s
    (λ r p q. c.sub.ensures.encloses.narrow r p q))

pub returns-in_err-longitude-clause-leads : goal.returns-in_err-longitude-clause-leads
unfolding elongation_of
returns-in_err-longitude-clause-leads g c = λ w x h.
    let fails = err_from_is_err_and c.from_residual-in_err-longitude.result c.from_residual-in_err-longitude.ensures.1
    in
    rw (fails.1, fails.2) (leads_bind (c.in_ok-place.ensures.leads w x h)
    (λ l i. leads_fail _ (c.in_err-longitude.ensures.leads w x h)))

pub returns-in_err-angle-clause-leads : goal.returns-in_err-angle-clause-leads
unfolding elongation_of
returns-in_err-angle-clause-leads g c = λ w x h.
    let fails = err_from_is_err_and c.from_residual-in_err-angle.result c.from_residual-in_err-angle.ensures.1 in
    let s = c.in_ok-longitude.ensures.leads w x h in
    rw (fails.1, fails.2) (leads_bind (c.in_ok-place.ensures.leads w x h)
    (λ l i. leads_on _ s
    (fails_as (c.in_err-angle.ensures.leads w _ (c.sub.ensures.encloses.holds w _ _ i (leaf_within s))))))

pub returns-in_err-angle-clause-measured : goal.returns-in_err-angle-clause-measured
returns-in_err-angle-clause-measured g c = λ v e b h.
    let fails = err_from_is_err_and c.from_residual-in_err-angle.result c.from_residual-in_err-angle.ensures.1 in
    let m = c.in_ok-place.ensures.measured v e b h in
    let s = c.in_ok-longitude.ensures.measured v e (omega (arith, b)) h in
    rw (fails.1, fails.2) (c.in_err-angle.ensures.measured (22 * v + 17 * 2 ^ 32) e (omega (arith, b))
    (elongation_within g.E.Enclosure.shown _ v c.in_ok-place.place.longitude c.in_ok-longitude.longitude c.sub.result e
    m.longitude s
    (λ r p q. c.sub.ensures.encloses.narrow r p q)))

pub returns-in_err-angle-clause-open : goal.returns-in_err-angle-clause-open
returns-in_err-angle-clause-open g c =
    let fails = err_from_is_err_and c.from_residual-in_err-angle.result c.from_residual-in_err-angle.ensures.1 in
    rw (fails.1, fails.2) (c.in_err-angle.ensures.elsewhere _)
