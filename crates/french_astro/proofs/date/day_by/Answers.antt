use Rattle.std.proofs.Common.{arith, SFits, w64, pos, ◌+ℤ◌, ◌-ℤ◌, ◌*ℤ◌}
use Rattle.std.proofs.lemmas.Int.{to_z-of_z, ints}
use Rattle.french_astro.proofs.date.day_by.Goals as goal

pub returns : goal.returns
returns c =
    let ff = c.ranges.first in
    let fm = c.ranges.month in
    let fd = c.ranges.day in
    let value = c.requires.value in
    let over = pos 30 *ℤ (c.args.month -ℤ pos 1) in
    let fo : SFits w64 (c.args.month -ℤ pos 1) =
    omega (arith, ints, c.requires.from_first_month, c.requires.to_last_month) in
    let fp : SFits w64 over = omega (arith, ints, c.requires.from_first_month, c.requires.to_last_month) in
    let fs : SFits w64 (c.args.first +ℤ over) = omega (
      arith,
      ints,
      value.0,
      value.1,
      c.requires.from_first_month,
      c.requires.to_last_month,
    ) in
    let ft : SFits w64 (c.args.first +ℤ over +ℤ c.args.day) = omega (
      arith,
      ints,
      value.0,
      value.1,
      c.requires.from_first_month,
      c.requires.to_last_month,
      c.requires.from_first_day,
      c.requires.to_last_day,
    ) in
    let fe : SFits w64 (c.args.first +ℤ over +ℤ c.args.day -ℤ pos 1) = omega (
      arith,
      ints,
      value.0,
      value.1,
      c.requires.from_first_month,
      c.requires.to_last_month,
      c.requires.from_first_day,
      c.requires.to_last_day,
    ) in
    simp to_z-of_z (record { day = omega (arith, ints) })
