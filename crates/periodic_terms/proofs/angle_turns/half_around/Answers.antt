use Rattle.std.proofs.Common.{arith, rules, SFits, pos, ◌+ℤ◌, ◌-ℤ◌, ◌*ℤ◌}
use Rattle.std.specs.Int.{w128}
use Rattle.std.proofs.lemmas.Int.{ints, to_z-of_z}
use Rattle.encl_core.proofs.Stepping.{cast_is}
use Rattle.periodic_terms.proofs.angle_turns.half_around.Goals as goal

pub returns-clause-value : goal.returns-clause-value
returns-clause-value c =
    let fm : SFits w128 c.args.middle.count = search rules in
    let fh = c.ranges.hi in
    let n = c.if-after-gt-GREATEST_HALF_56.false in
    let g2 : SFits w128 (c.args.hi -ℤ c.args.middle.count) = omega (
      arith,
      ints,
      c.requires,
      c.args.middle.least,
      c.args.middle.greatest,
    ) in
    let m = simp to_z-of_z at n in
    let g3 : SFits w128 ((c.args.hi -ℤ c.args.middle.count) *ℤ pos 32) =
    omega (arith, ints, c.requires, m, c.args.middle.least, c.args.middle.greatest) in
    let g4 : SFits w128 ((c.args.hi -ℤ c.args.middle.count) *ℤ pos 32 +ℤ pos 90) =
    omega (arith, ints, c.requires, m, c.args.middle.least, c.args.middle.greatest) in
    let k = cast_is ((c.args.hi -ℤ c.args.middle.count) *ℤ pos 32 +ℤ pos 90)
    (omega (arith, ints, c.requires, c.args.middle.least, c.args.middle.greatest)) in
    simp to_z-of_z k
