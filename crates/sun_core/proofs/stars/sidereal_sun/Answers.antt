use Rattle.std.proofs.Common.{arith, ◌+◌, ◌*◌, ◌^◌}
use Rattle.std.proofs.lemmas.Result.{err_from_is_err_and}
use Rattle.time_scales.proofs.Measured.{recent_moment}
use Rattle.sun_core.proofs.StarWidths.{star_within}
use Rattle.sun_core.proofs.stars.sidereal_sun.Goals as goal

pub returns-clause-open : goal.returns-clause-open
returns-clause-open g c = c.wrapped_sidereal.ensures.elsewhere _

pub returns-clause-measured : goal.returns-clause-measured
returns-clause-measured g c = λ v e l h.
    let shown = g.E.Enclosure.shown in
    let s = c.in_ok-longitude.ensures.measured v e l (recent_moment v _ h) in
    let p = c.in_ok-moved.ensures.measured v e l h in
    c.wrapped_sidereal.ensures.measured (3 * v + 2 ^ 34) e (omega (arith, l))
    (star_within shown _ v c.in_ok-longitude.longitude c.in_ok-moved.moved c.sidereal_by.result e s p
    (λ r y z. c.sidereal_by.ensures.encloses.narrow r y z))

pub returns-in_err-longitude-clause-measured : goal.returns-in_err-longitude-clause-measured
returns-in_err-longitude-clause-measured g c = λ v e l h.
    let fails = err_from_is_err_and c.from_residual.result c.from_residual.ensures.1 in
    rw (fails.1, fails.2) (c.in_err-longitude.ensures.measured v e l (recent_moment v _ h))
