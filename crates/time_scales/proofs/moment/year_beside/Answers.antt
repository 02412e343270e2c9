use Rattle.std.proofs.Common.{rules, arith, SFits, w64, ◌≡◌}
use Rattle.std.specs.Int.{w128}
use Rattle.std.proofs.lemmas.Int.{to_z-of_z, ints}
use Rattle.time_scales.proofs.Years.{year_of_same_day}
use Rattle.time_scales.proofs.moment.year_beside.Goals as goal

pub returns-then-div_euclid : goal.returns-then-div_euclid
returns-then-div_euclid c =
    let fk : SFits w128 c.args.known = c.ranges.known in
    let fm : SFits w128 c.args.moment = c.ranges.moment in
    let fy : SFits w64 c.args.year = c.ranges.year in
    let fp : SFits w128 c.div_euclid.result = search rules in
    let fq : SFits w128 c.div_euclid-2.result = search rules in
    let p = simp to_z-of_z at c.div_euclid.ensures in
    let q = simp to_z-of_z at c.div_euclid-2.ensures in
    let same : c.div_euclid.result ≡ c.div_euclid-2.result = grind (arith, ints, to_z-of_z, c.if-div_euclid.true) in
    record {
      year = simp to_z-of_z (year_of_same_day c.args.known c.args.moment _ _ c.args.year p q same
          c.requires.year);
    }
