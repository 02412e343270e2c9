use Rattle.interval_endpoints.specs.Scales.{coarse}
use Rattle.std.proofs.Common.{rules, SFits, w64, sym}
use Rattle.std.proofs.lemmas.Int.{to_z-of_z}
use Rattle.encl_core.specs.Shown.{shown_coarse}
use Rattle.interval_endpoints.proofs.Following.{within_remainder, narrow_remainder}
use Rattle.interval_endpoints.proofs.Periods.{known_period}
use Rattle.encl_core.proofs.coarse.CoarseEnclosure.wrap.Goals as goal

pub returns-in-Some-clause-holds : goal.returns-in-Some-clause-holds
returns-in-Some-clause-holds c = λ q w x e.
    let f : SFits w64 c.in-Some.period = search rules in
    let p = known_period c.in-Some.period q _ c.args.modulus (sym c.in-Some.ensures.value) e in
    rw p (within_remainder shown_coarse w c.args.modulus x c.in-Some.period _ _
    (simp to_z-of_z at c.rest_of_period.ensures.holds))

pub returns-in-Some-clause-narrow : goal.returns-in-Some-clause-narrow
returns-in-Some-clause-narrow c = λ q r x h.
    let f : SFits w64 c.in-Some.period = search rules in
    narrow_remainder coarse shown_coarse r c.args.modulus x q _ _ c.rest_of_period.ensures.narrow h
