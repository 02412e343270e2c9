use Rattle.std.proofs.Common.{arith, SFits, w64, ◌-ℤ◌}
use Rattle.std.proofs.lemmas.Int.{to_z-of_z, ints}
use Rattle.french_astro.proofs.date.days_over.Goals as goal

pub returns : goal.returns
returns c =
    let ff = c.ranges.first in
    let fd = c.ranges.day in
    let day = c.requires.day in
    let first = c.requires.first in
    let fs : SFits w64 (c.args.day -ℤ c.args.first) = omega (arith, ints, day.0, day.1, first.0, first.1) in
    simp to_z-of_z (record {
      over = omega (arith, ints);
      near = (omega (arith, ints, day.0, first.1), omega (arith, ints, day.1, first.0));
    })
