use Rattle.std.proofs.Common.{arith, ◌^◌}
use Rattle.std.proofs.lemmas.Result.{err_from_is_err_and}
use Rattle.book_model.specs.programs.Widths.{IsClose}
use Rattle.time_scales.specs.Steps.{IsYearUndecidedFor}
use Rattle.moon_rise.proofs.Risings.{dated_exact, sidereal_never}
use Rattle.moon_rise.proofs.altitudes.observed.Goals as goal

pub returns-clause-measured : goal.returns-clause-measured
returns-clause-measured g c = λ k t e.
    let d = dated_exact _ c.in_ok-tilt.ensures.in_table t in
    let s = c.in_ok-greenwich.ensures.measured (2 ^ 16) e (omega arith) d in
    c.observed_with.ensures.measured k t s (c.in_ok-tilt.ensures.measured (2 ^ 16) e (omega arith) t) e

pub returns-in_err-greenwich-clause-measured : goal.returns-in_err-greenwich-clause-measured
returns-in_err-greenwich-clause-measured g c = λ k t e.
    let fails = err_from_is_err_and c.from_residual.result c.from_residual.ensures.1 in
    rw (fails.1, fails.2) (sidereal_never g.E.Enclosure.shown g.E.Enclosure.proper c.args.t IsClose _
    c.in_err-greenwich.ensures.leads)

pub returns-in_err-greenwich-clause-open : goal.returns-in_err-greenwich-clause-open
returns-in_err-greenwich-clause-open g c =
    let fails = err_from_is_err_and c.from_residual.result c.from_residual.ensures.1 in
    rw (fails.1, fails.2) (sidereal_never g.E.Enclosure.shown g.E.Enclosure.proper c.args.t
    (IsYearUndecidedFor (g.E.Enclosure.shown c.args.t)) _ c.in_err-greenwich.ensures.leads)

pub returns-in_err-tilt-clause-measured : goal.returns-in_err-tilt-clause-measured
returns-in_err-tilt-clause-measured g c = λ k t e.
    let fails = err_from_is_err_and c.from_residual-in_err-tilt.result c.from_residual-in_err-tilt.ensures.1 in
    rw (fails.1, fails.2) (c.in_err-tilt.ensures.measured (2 ^ 16) e (omega arith) t)
