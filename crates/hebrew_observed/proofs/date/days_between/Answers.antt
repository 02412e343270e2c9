use Rattle.std.proofs.Common.{arith, SFits, w64, ◌-ℤ◌}
use Rattle.std.proofs.lemmas.Int.{to_z-of_z, ints}
use Rattle.hebrew_observed.proofs.date.days_between.Goals as goal

pub returns : goal.returns
returns c =
    let ff = c.ranges.from in
    let ft = c.ranges.to in
    let from = c.requires.from in
    let to = c.requires.to in
    let fs : SFits w64 (c.args.to -ℤ c.args.from) = omega (arith, ints, from.0, from.1, to.0, to.1) in
    simp to_z-of_z (record {
      days = omega (arith, ints);
      near = (omega (arith, ints, from.1, to.0), omega (arith, ints, from.0, to.1));
    })
