use Rattle.std.proofs.Common.{rules, arith, SFits, w64}
use Rattle.std.proofs.lemmas.Int.{to_z-of_z, ints}
use Rattle.islamic_observed.proofs.Counts.{days_near}
use Rattle.islamic_observed.proofs.months.days_of_halves.Goals as goal

pub returns : goal.returns
returns c =
    let fn = c.ranges.halves in
    let fr : SFits w64 c.days_of.result = search rules in
    let e = simp to_z-of_z at c.days_of.ensures.days in
    let n = days_near c.args.halves c.requires.low c.requires.high in
    simp to_z-of_z (record { days = e; from = omega (arith, ints, e, n.from); to = omega (arith, ints, e, n.to) })
