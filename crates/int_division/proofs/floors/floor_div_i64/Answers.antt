use Rattle.std.proofs.Common.{rules, arith, SFits, w64, negsuc, ◌-ℤ◌}
use Rattle.std.proofs.lemmas.Int.{ints, to_z-of_z}
use Rattle.int_division.proofs.Stepping.{floor_below}
use Rattle.int_division.proofs.floors.floor_div_i64.Goals as goal

pub returns-then-n-lt0 : goal.returns-then-n-lt0
returns-then-n-lt0 c =
    let fn = c.ranges.n in
    let fd = c.ranges.d in
    let fq : SFits w64 c.natural_floor.result = search rules in
    let gn : SFits w64 (negsuc 0 -ℤ c.args.n) = omega (arith, ints, fn) in
    let gq : SFits w64 (negsuc 0 -ℤ c.natural_floor.result) = omega (arith, ints, fq, c.natural_floor.ensures.natural)
    in
    let f = simp to_z-of_z at c.natural_floor.ensures.floor in
    simp to_z-of_z (floor_below c.args.n c.args.d c.natural_floor.result f)
