use Rattle.std.proofs.Common.{rules, arith, SFits}
use Rattle.std.specs.Int.{w128}
use Rattle.std.proofs.lemmas.Int.{ints, to_z-of_z}
use Rattle.trig_series.proofs.OctantLemmas.{last_is, division_is}
use Rattle.trig_series.proofs.octants.last_met.Goals as goal

pub returns : goal.returns
returns c =
    let fh = c.ranges.hi in
    let fq : SFits w128 c.octants_in.result = search rules in
    let e = simp to_z-of_z at c.octants_in.ensures.value in
    let q = division_is c.args.hi c.octants_in.result e in
    record {
      value = simp to_z-of_z (last_is c.args.hi c.octants_in.result e);
      begun = simp to_z-of_z (omega (arith, ints, q.not_above));
      ended = simp to_z-of_z (omega (arith, ints, q.close));
      above = simp to_z-of_z (omega (arith, ints, c.requires, q.not_above, q.close));
      below = simp to_z-of_z (omega (arith, ints, c.requires, q.not_above, q.close));
    }
