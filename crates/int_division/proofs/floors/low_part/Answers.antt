use Rattle.std.proofs.Common.{arith, pos, ◌-ℤ◌, ◌*ℤ◌}
use Rattle.std.proofs.lemmas.Int.{ints, to_z-of_z}
use Rattle.int_division.proofs.Stepping.{low_in, cast_fits, cast_is}
use Rattle.int_division.proofs.floors.low_part.Goals as goal

pub overflow_cast-result : goal.overflow_cast-result
overflow_cast-result c =
    let fn = c.ranges.number in
    let fu = c.ranges.upper in
    let r = low_in c.args.number c.args.upper fn c.requires in
    let g1 = r.0 in
    let g2 = r.1 in
    simp to_z-of_z (cast_fits (c.args.number -ℤ c.args.upper *ℤ pos 536870912) r.2 (omega (arith, ints, r.3)))

pub returns-clause-value : goal.returns-clause-value
returns-clause-value c =
    let fn = c.ranges.number in
    let fu = c.ranges.upper in
    let r = low_in c.args.number c.args.upper fn c.requires in
    let g1 = r.0 in
    let g2 = r.1 in
    simp to_z-of_z (cast_is (c.args.number -ℤ c.args.upper *ℤ pos 536870912) r.2)

pub returns-clause-less : goal.returns-clause-less
returns-clause-less c =
    let fn = c.ranges.number in
    let fu = c.ranges.upper in
    let r = low_in c.args.number c.args.upper fn c.requires in
    let g1 = r.0 in
    let g2 = r.1 in
    let k = cast_is (c.args.number -ℤ c.args.upper *ℤ pos 536870912) r.2 in
    simp to_z-of_z (omega (arith, ints, k, r.3))
