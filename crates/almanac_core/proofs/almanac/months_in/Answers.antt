use Rattle.std.proofs.Common.{rules, arith, SFits, w64}
use Rattle.std.proofs.lemmas.Int.{to_z-of_z, ints}
use Rattle.almanac_core.proofs.Years.{months_from, months_few}
use Rattle.almanac_core.proofs.almanac.months_in.Goals as goal

pub returns : goal.returns
returns c =
    let fn = c.ranges.days in
    let fr : SFits w64 c.spans_of.result = search rules in
    let e = simp to_z-of_z at c.spans_of.ensures.spans in
    let n = months_from c.args.days c.requires.from in
    let m = months_few c.args.days c.requires.to in
    simp to_z-of_z (record { months = e; near_from = omega (arith, ints, e, n); near_to = omega (arith, ints, e, m) })
