use Rattle.book_model.specs.numbers.Expressions.{argument, remainder, subtract, constant}
use Rattle.book_model.specs.numbers.Fractions.{fraction_of}
use Rattle.book_model.specs.declared.site.Site.TheVariants.{SunWrap}
use Rattle.book_model.specs.declared.time_tables.TheConstants.{NOON_2000}
use Rattle.book_model.specs.programs.Programs.{answer, cell, multiples}
use Rattle.book_model.specs.sky.Sun.{sun_of, longitude_of}
use Rattle.book_model.specs.sky.Time.{in_centuries as centuries_from}
use Rattle.sun_core.specs.Daily.{in_centuries}
use Rattle.sun_core.proofs.Elapsed.{by_dynamical}
use Rattle.std.proofs.Common.{arith, ◌+◌, ◌*◌, ◌^◌}
use Rattle.book_model.specs.numbers.Bounds.{Reach}
use Rattle.encl_core.proofs.Measuring.{measured_argument}
use Rattle.sun_core.proofs.Again.{longitudes_again}
use Rattle.sun_core.proofs.Measured.{tabled, days_of, days_within, centuries_within, turned_within}
use Rattle.sun_core.proofs.longitude.sun.Goals as goal

pub returns-clause-leads : goal.returns-clause-leads
unfolding sun_of centuries_from in_centuries
returns-clause-leads g c = λ w x h.
    by_dynamical x (λ v. cell SunWrap (multiples 360) (longitude_of v) (λ q. answer (remainder 360 (longitude_of v) q)))
    (c.in_ok-moment.ensures.leads w x h)
    (λ d r.
    let days = c.sub-days.ensures.encloses.holds w d (constant (fraction_of NOON_2000)) r
    (c.from_frac.ensures.encloses.holds w r.deep) in
    c.wrap_step.ensures.leads w (longitude_of (in_centuries (subtract d (constant (fraction_of NOON_2000)))))
    (c.longitude.ensures.holds w (subtract d (constant (fraction_of NOON_2000))) days
    (c.mul_frac-c.ensures.encloses.holds w _ days)))

pub returns-clause-measured : goal.returns-clause-measured
unfolding in_centuries
returns-clause-measured g c = λ v e b h.
    let shown = g.E.Enclosure.shown in
    let r : Reach = record { width = v + 2 ^ 17; bounds = tabled } in
    let m = c.in_ok-moment.ensures.measured v e (omega (arith, b)) h in
    let days = c.sub-days.ensures.encloses.narrow r (argument 0) (constant (fraction_of NOON_2000))
    (measured_argument shown _ _ _ (v + 2 ^ 17) 0 c.in_ok-moment.moment m) (c.from_frac.ensures.encloses.narrow r) in
    let y = c.longitude.ensures.measured (v + 2 ^ 18) e (omega (arith, b))
    (days_within shown _ v e b c.sub-days.result days)
    (centuries_within shown _ v e b c.mul_frac-c.result (c.mul_frac-c.ensures.encloses.narrow r days_of days)) in
    c.wrap_step.ensures.measured (2 * v + 2 ^ 32) e (omega (arith, b))
    (turned_within shown _ v e b c.longitude.result y)

pub returns-clause-again : goal.returns-clause-again
returns-clause-again g c = longitudes_again g.E.Enclosure.shown c.args.t c.wrap_step.result (returns-clause-leads g c)
