use Rattle.std.proofs.Common.{rules, arith, SFits, w64}
use Rattle.std.proofs.lemmas.Int.{to_z-of_z, ints}
use Rattle.hindu_astro.proofs.Counts.{days_near}
use Rattle.hindu_astro.proofs.months.days_of_twelfths.Goals as goal

pub returns-clause-from : goal.returns-clause-from
returns-clause-from c =
    let fn = c.ranges.twelfths in
    let fr : SFits w64 c.days_of.result = search rules in
    let e = simp to_z-of_z at c.days_of.ensures.days in
    let n = days_near c.args.twelfths c.requires.low c.requires.high in
    simp to_z-of_z (omega (arith, ints, e, n.from))

pub returns-clause-to : goal.returns-clause-to
returns-clause-to c =
    let fn = c.ranges.twelfths in
    let fr : SFits w64 c.days_of.result = search rules in
    let e = simp to_z-of_z at c.days_of.ensures.days in
    let n = days_near c.args.twelfths c.requires.low c.requires.high in
    simp to_z-of_z (omega (arith, ints, e, n.to))
