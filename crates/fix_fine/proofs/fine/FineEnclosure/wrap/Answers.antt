use Rattle.interval_endpoints.specs.Scales.{fine}
use Rattle.std.proofs.Common.{rules, arith, SFits, sym}
use Rattle.std.specs.Int.{w128}
use Rattle.std.proofs.lemmas.Int.{to_z-of_z}
use Rattle.fix_fine.specs.Shown.{shown_fine}
use Rattle.interval_endpoints.proofs.Following.{within_remainder, narrow_remainder}
use Rattle.interval_endpoints.proofs.Periods.{known_period}
use Rattle.fix_fine.proofs.Rows.{remainder_of_endpoints}
use Rattle.fix_fine.proofs.fine.FineEnclosure.wrap.Goals as goal

pub returns-in-Some-clause-holds : goal.returns-in-Some-clause-holds
returns-in-Some-clause-holds c = λ q w x e.
    let f : SFits w128 c.in-Some.period = search rules in
    let p = known_period c.in-Some.period q _ c.args.modulus (sym c.in-Some.ensures.value) e in
    rw p (within_remainder shown_fine w c.args.modulus x c.in-Some.period _ _
    (simp to_z-of_z at c.rest_of_period.ensures.holds))

pub returns-in-Some-clause-narrow : goal.returns-in-Some-clause-narrow
returns-in-Some-clause-narrow c = λ q r x h.
    let f : SFits w128 c.in-Some.period = search rules in
    narrow_remainder fine shown_fine r c.args.modulus x q _ _ c.rest_of_period.ensures.narrow h

pub returns-in-Some-clause-table : goal.returns-in-Some-clause-table
returns-in-Some-clause-table c = remainder_of_endpoints c.args.self.endpoints c.rest_of_period.result c.args.modulus
    (omega (arith, c.ranges.modulus))
    c.rest_of_period.ensures.narrow
