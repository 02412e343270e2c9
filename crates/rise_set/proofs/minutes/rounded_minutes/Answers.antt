use Rattle.std.specs.Prelude.{pos, ◌*ℤ◌}
use Rattle.std.proofs.Common.{SFits, w64, arith, ◌^◌}
use Rattle.std.proofs.lemmas.Int.{to_z-of_z, ints}
use Rattle.rise_set.proofs.minutes.rounded_minutes.Goals as goal

pub returns-clause-close : goal.returns-clause-close
returns-clause-close g c = λ e t.
    let f : SFits w64 c.args.day = c.ranges.day in
    let minutes : SFits w64 (pos 1440) = omega (arith, ints) in
    let product : SFits w64 (pos 1440 *ℤ c.args.day) = omega (arith, ints, c.requires.day.0, c.requires.day.1) in
    let m = simp to_z-of_z at c.minutes_after.ensures.measured in
    let close = simp to_z-of_z at
    (rw c.from.ensures at (c.floor_of_shifted.ensures.close (2 ^ 43) (omega arith) (m e c.requires.day t))) in
    close (omega (arith, ints, c.requires.day.0, c.requires.day.1))
    (omega (arith, ints, c.requires.day.0, c.requires.day.1))
