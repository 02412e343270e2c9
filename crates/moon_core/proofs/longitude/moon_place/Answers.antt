use Rattle.std.proofs.Common.{arith}
use Rattle.std.proofs.lemmas.Result.{err_from_is_err_and}
use Rattle.book_model.specs.sky.Moon.{moon_of}
use Rattle.moon_core.specs.Elements.{reduced_longitude_of}
use Rattle.moon_core.proofs.MomentElements.{by_elements}
use Rattle.moon_core.proofs.MoonPlaces.{fails_as, leads_as}
use Rattle.moon_core.proofs.longitude.moon_place.Goals as goal

pub returns-clause-leads : goal.returns-clause-leads
unfolding moon_of reduced_longitude_of
returns-clause-leads g c = λ w x h. by_elements reduced_longitude_of (c.in_ok-elements.ensures.leads w x h)
    (λ d k. leads_as (c.in_ok-longitude.ensures.leads w d k) (λ v r. r))

pub returns-clause-again : goal.returns-clause-again
unfolding moon_of reduced_longitude_of
returns-clause-again g c = λ w x h.
    let e = c.in_ok-elements.ensures.again w x h in
    record {
      elements = e;
      longitude = λ k. by_elements reduced_longitude_of (e.again k) (λ d b. c.in_ok-longitude.ensures.again w d b _);
    }

pub returns-clause-measured : goal.returns-clause-measured
returns-clause-measured g c = λ v e b h.
    let m = c.in_ok-elements.ensures.measured v e (omega (arith, b)) h in
    record { elements = m; longitude = c.in_ok-longitude.ensures.measured v e b m }

pub returns-clause-wide : goal.returns-clause-wide
returns-clause-wide g c = λ v e b h. c.in_ok-longitude.ensures.wide v e b
    (c.in_ok-elements.ensures.measured v e (omega (arith, b)) h)

pub returns-in_err-longitude-clause-leads : goal.returns-in_err-longitude-clause-leads
unfolding moon_of reduced_longitude_of
returns-in_err-longitude-clause-leads g c = λ w x h.
    let fails = err_from_is_err_and c.from_residual-in_err-longitude.result c.from_residual-in_err-longitude.ensures.1
    in
    rw (fails.1, fails.2) (by_elements reduced_longitude_of (c.in_ok-elements.ensures.leads w x h)
    (λ d k. fails_as (c.in_err-longitude.ensures.leads w d k)))

pub returns-in_err-longitude-clause-open : goal.returns-in_err-longitude-clause-open
returns-in_err-longitude-clause-open g c =
    let fails = err_from_is_err_and c.from_residual-in_err-longitude.result c.from_residual-in_err-longitude.ensures.1
    in
    rw (fails.1, fails.2) (c.in_err-longitude.ensures.elsewhere _)
