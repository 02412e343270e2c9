use Rattle.std.proofs.Common.{arith}
use Rattle.std.proofs.lemmas.Int.{to_z-of_z, ints}
use Rattle.persian_cal.proofs.YearDays.{twelve_months}
use Rattle.persian_cal.proofs.date.day_by.Goals as goal

pub overflow_sub-result : goal.overflow_sub-result
overflow_sub-result c =
    let fm = c.ranges.month in
    let before = simp to_z-of_z at c.days_before.ensures.days in
    let near = twelve_months c.args.month (record { from = c.requires.from_first_month; to = c.requires.to_last_month })
    in
    omega (arith, ints, before, near.from, near.to)

pub returns : goal.returns
returns c =
    let fm = c.ranges.month in
    let before = simp to_z-of_z at c.days_before.ensures.days in
    let near = twelve_months c.args.month (record { from = c.requires.from_first_month; to = c.requires.to_last_month })
    in
    record {
      day = omega (arith, ints, before, near.from, near.to);
      near = (omega (arith, ints, before, near.from, near.to), omega (arith, ints, before, near.from, near.to));
    }
