use Rattle.std.proofs.Common.{rules, arith, SFits, w64, ◌∙◌}
use Rattle.std.specs.Int.{w128}
use Rattle.std.proofs.lemmas.Int.{to_z-of_z, ints}
use Rattle.time_scales.proofs.Years.{day_is, year_at_is}
use Rattle.time_scales.proofs.moment.year_at.Goals as goal

pub year_of-requires : goal.year_of-requires
year_of-requires c =
    let fm = c.ranges.moment in
    let fq : SFits w128 c.div_euclid.result = search rules in
    let q = day_is c.args.moment c.div_euclid.result (simp to_z-of_z at c.div_euclid.ensures) in
    record {
      from = simp to_z-of_z (omega (arith, ints, fm.sfits, q.not_above, q.close));
      to = simp to_z-of_z (omega (arith, ints, fm.sfits, q.not_above, q.close));
    }

pub returns : goal.returns
returns c =
    let fm = c.ranges.moment in
    let fq : SFits w128 c.div_euclid.result = search rules in
    let fr : SFits w64 c.year_of.result = search rules in
    let y = simp to_z-of_z at c.year_of.ensures.year in
    record {
      year = simp to_z-of_z (y ∙ year_at_is c.args.moment c.div_euclid.result
          (simp to_z-of_z at c.div_euclid.ensures));
    }
