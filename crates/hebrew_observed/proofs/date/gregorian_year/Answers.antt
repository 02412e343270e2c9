use Rattle.std.proofs.Common.{rules, arith, SFits, w64}
use Rattle.std.specs.Int.{w128}
use Rattle.std.proofs.lemmas.Int.{to_z-of_z, ints}
use Rattle.hebrew_observed.proofs.Years.{year_near}
use Rattle.hebrew_observed.proofs.date.gregorian_year.Goals as goal

pub returns : goal.returns
returns c =
    let fd = c.ranges.day in
    let fa : SFits w128 c.args.day = omega (arith, ints, c.requires.day.0, c.requires.day.1) in
    let fw : SFits w128 c.from.result = search rules in
    let fy : SFits w64 c.year_of.result = search rules in
    let day = simp to_z-of_z at c.from.ensures in
    let e = simp to_z-of_z at c.year_of.ensures.year in
    let year = rw day at e in
    let n = year_near c.args.day c.requires.day.0 c.requires.day.1 in
    simp to_z-of_z (record { year = year; near = (omega (arith, ints, year, n.0), omega (arith, ints, year, n.1)) })
