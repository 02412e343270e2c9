use Rattle.std.proofs.Common.{arith, SFits, w64, pos, ◌+ℤ◌}
use Rattle.std.proofs.lemmas.Int.{to_z-of_z, ints}
use Rattle.sun_core.specs.Steps.{apparent_midnight_of}
use Rattle.sun_core.proofs.apparent.apparent_midnight.Goals as goal

pub returns : goal.returns
unfolding apparent_midnight_of
returns g c =
    let f : SFits w64 c.args.day = c.ranges.day in
    let n : SFits w64 (c.args.day +ℤ pos 1) = omega (arith, ints, c.requires.day.0, c.requires.day.1) in
    record { encloses = simp to_z-of_z at c.from_int.ensures.encloses }
