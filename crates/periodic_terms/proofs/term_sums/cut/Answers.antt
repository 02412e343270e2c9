use Rattle.std.proofs.Common.{rules, arith, SFits, pos, ◌-ℤ◌}
use Rattle.std.specs.Int.{w128}
use Rattle.std.proofs.lemmas.Int.{ints, clamps, to_z-of_z}
use Rattle.periodic_terms.proofs.term_sums.cut.Goals as goal

pub returns : goal.returns
returns c =
    let fe = c.ranges.end in
    let fm = c.ranges.most in
    let fn : SFits w128 (pos 0 -ℤ c.args.most) = omega (arith, ints, c.requires) in
    let fp : SFits w128 c.max.result = search rules in
    let fq : SFits w128 c.min.result = search rules in
    let e = simp to_z-of_z at c.max.ensures.value in
    let f = simp to_z-of_z at c.min.ensures.value in
    record { value = simp to_z-of_z (omega (arith, ints, clamps, e, f)) }
