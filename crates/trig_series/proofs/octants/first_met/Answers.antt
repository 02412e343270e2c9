use Rattle.std.proofs.Common.{rules, arith, SFits, pos, ◌-ℤ◌}
use Rattle.std.specs.Int.{w128}
use Rattle.std.proofs.lemmas.Int.{ints, to_z-of_z}
use Rattle.trig_series.proofs.OctantLemmas.{first_is, division_is}
use Rattle.trig_series.proofs.octants.first_met.Goals as goal

pub returns : goal.returns
returns c =
    let fl = c.ranges.lo in
    let fm : SFits w128 (pos 0 -ℤ c.args.lo) = omega (arith, ints, c.requires) in
    let fq : SFits w128 c.octants_in.result = search rules in
    let e = simp to_z-of_z at c.octants_in.ensures.value in
    let q = division_is (pos 0 -ℤ c.args.lo) c.octants_in.result e in
    let fn : SFits w128 (pos 0 -ℤ c.octants_in.result) = omega (arith, ints, c.requires, q.not_above, q.close) in
    let fr : SFits w128 ((pos 0 -ℤ c.octants_in.result) -ℤ pos 1) =
    omega (arith, ints, c.requires, q.not_above, q.close) in
    record {
      value = simp to_z-of_z (first_is c.args.lo c.octants_in.result e);
      begun = simp to_z-of_z (omega (arith, ints, q.close));
      ended = simp to_z-of_z (omega (arith, ints, q.not_above));
      above = simp to_z-of_z (omega (arith, ints, c.requires, q.not_above, q.close));
      below = simp to_z-of_z (omega (arith, ints, c.requires, q.not_above, q.close));
    }
