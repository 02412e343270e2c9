use Rattle.std.proofs.Common.{arith, ◌^◌, SFits, w64}
use Rattle.std.proofs.lemmas.Int.{to_z-of_z}
use Rattle.std.proofs.lemmas.Result.{err_from_is_err_and}
use Rattle.sun_core.proofs.Measured.{noon_within, noon_found, ahead_within, tehran_is_narrow}
use Rattle.sun_core.proofs.apparent.noon.Goals as goal

pub returns-clause-measured : goal.returns-clause-measured
returns-clause-measured g c = λ e.
    let shown = g.E.Enclosure.shown in
    let f : SFits w64 c.args.d = c.ranges.d in
    let k = simp to_z-of_z at c.apparent_noon.ensures.encloses.narrow in
    let x = noon_within shown _ c.args.d c.apparent_noon.result e c.requires.day k in
    let m = c.in_ok-local.ensures.measured tehran_is_narrow (2 ^ 8) e (omega arith) x in
    noon_found shown _ c.in_ok-local.local c.ahead.result c.sub.result e m
    (ahead_within shown _ _ c.ahead.result e tehran_is_narrow (λ r. c.ahead.ensures.encloses.narrow r))
    (λ r p q. c.sub.ensures.encloses.narrow r p q)

pub returns-in_err-local-clause-measured : goal.returns-in_err-local-clause-measured
returns-in_err-local-clause-measured g c = λ e.
    let f : SFits w64 c.args.d = c.ranges.d in
    let k = simp to_z-of_z at c.apparent_noon.ensures.encloses.narrow in
    let fails = err_from_is_err_and c.from_residual.result c.from_residual.ensures.1 in
    rw (fails.1, fails.2) (c.in_err-local.ensures.measured tehran_is_narrow (2 ^ 8) e (omega arith)
    (noon_within g.E.Enclosure.shown _ c.args.d c.apparent_noon.result e c.requires.day k))
