use Rattle.std.proofs.Common.{arith, ◌+◌, ◌/◌, ◌^◌, SFits, w64}
use Rattle.std.proofs.lemmas.Int.{to_z-of_z}
use Rattle.std.proofs.lemmas.Result.{err_from_is_err_and}
use Rattle.moon_core.proofs.Measured.{by_months_within, months_most}
use Rattle.moon_core.proofs.phases.phase_by_months.Goals as goal

pub returns-clause-measured : goal.returns-clause-measured
returns-clause-measured g c = λ l u v e b h.
    let f : SFits w64 c.args.n = c.ranges.n in
    let m = simp to_z-of_z at c.in_ok-months.ensures.measured in
    let r = c.in_ok-rest.ensures.measured (v / 29 + 2 ^ 26) e (omega (arith, b)) (months_most _ _ (m l u v e b h)) in
    by_months_within g.E.Enclosure.shown _ v c.in_ok-rest.rest c.mul_frac.result e r
    (λ r p. c.mul_frac.ensures.encloses.narrow r p)

pub returns-in_err-rest-clause-measured : goal.returns-in_err-rest-clause-measured
returns-in_err-rest-clause-measured g c = λ l u v e b h.
    let f : SFits w64 c.args.n = c.ranges.n in
    let m = simp to_z-of_z at c.in_ok-months.ensures.measured in
    let fails = err_from_is_err_and c.from_residual-in_err-rest.result c.from_residual-in_err-rest.ensures.1 in
    rw (fails.1, fails.2) (c.in_err-rest.ensures.measured (v / 29 + 2 ^ 26) e (omega (arith, b))
    (months_most _ _ (m l u v e b h)))
