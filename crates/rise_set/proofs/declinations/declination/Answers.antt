use Rattle.std.proofs.Common.{arith, ◌+◌, ◌/◌, ◌^◌}
use Rattle.std.proofs.lemmas.Result.{err_from_is_err_and}
use Rattle.rise_set.proofs.Measured.{declination_within}
use Rattle.rise_set.proofs.declinations.declination.Goals as goal

pub returns-clause-measured : goal.returns-clause-measured
returns-clause-measured g c = λ v e b h.
    let m = c.in_ok-c.ensures.measured v e (omega (arith, b)) h in
    let o = c.in_ok-tilt.ensures.measured (v / 36525 + 2 ^ 12) e (omega (arith, b)) m in
    let s = c.in_ok-longitude.ensures.measured v e b h in
    declination_within g.E.Enclosure.shown _ v c.in_ok-tilt.tilt c.in_ok-longitude.longitude c.declination_by.result e o
    s
    (λ r x y. c.declination_by.ensures.encloses.narrow r x y)

pub returns-in_err-c-clause-measured : goal.returns-in_err-c-clause-measured
returns-in_err-c-clause-measured g c = λ v e b h.
    let fails = err_from_is_err_and c.from_residual.result c.from_residual.ensures.1 in
    rw (fails.1, fails.2) (c.in_err-c.ensures.measured v e (omega (arith, b)) h)

pub returns-in_err-tilt-clause-measured : goal.returns-in_err-tilt-clause-measured
returns-in_err-tilt-clause-measured g c = λ v e b h.
    let fails = err_from_is_err_and c.from_residual-in_err-tilt.result c.from_residual-in_err-tilt.ensures.1 in
    let m = c.in_ok-c.ensures.measured v e (omega (arith, b)) h in
    rw (fails.1, fails.2) (c.in_err-tilt.ensures.measured (v / 36525 + 2 ^ 12) e (omega (arith, b)) m)

pub returns-in_err-longitude-clause-measured : goal.returns-in_err-longitude-clause-measured
returns-in_err-longitude-clause-measured g c = λ v e b h.
    let fails = err_from_is_err_and c.from_residual-in_err-longitude.result c.from_residual-in_err-longitude.ensures.1
    in
    rw (fails.1, fails.2) (c.in_err-longitude.ensures.measured v e b h)
