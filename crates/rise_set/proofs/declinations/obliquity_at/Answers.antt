use Rattle.std.proofs.Common.{arith, ◌+◌, ◌/◌, ◌^◌}
use Rattle.std.proofs.lemmas.Result.{err_from_is_err_and}
use Rattle.rise_set.proofs.Tilts.{obliquity_never, tilt_measures}
use Rattle.rise_set.proofs.declinations.obliquity_at.Goals as goal

pub returns-clause-measured : goal.returns-clause-measured
returns-clause-measured g c = λ v e b h.
    tilt_measures g.E.Enclosure.shown v c.obliquity.result b
    (c.obliquity.ensures.measured (v / 36525 + 2 ^ 12) e (omega (arith, b))
    (c.in_ok-c.ensures.measured v e (omega (arith, b)) h))

pub returns-in_err-c-clause-measured : goal.returns-in_err-c-clause-measured
returns-in_err-c-clause-measured g c = λ v e b h.
    let fails = err_from_is_err_and c.from_residual.result c.from_residual.ensures.1 in
    rw (fails.1, fails.2) (c.in_err-c.ensures.measured v e (omega (arith, b)) h)

pub returns-clause-open : goal.returns-clause-open
returns-clause-open g c = obliquity_never g.E.Enclosure.shown g.E.Enclosure.proper c.in_ok-c.c _ c.obliquity.result
    c.obliquity.ensures.leads
