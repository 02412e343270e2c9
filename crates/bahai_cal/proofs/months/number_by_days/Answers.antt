use Rattle.std.proofs.Common.{rules, arith, SFits, w64, pos, ◌+ℤ◌, ◌-ℤ◌}
use Rattle.std.proofs.lemmas.Int.{to_z-of_z, ints}
use Rattle.bahai_cal.proofs.Counts.{month_near}
use Rattle.bahai_cal.proofs.months.number_by_days.Goals as goal

pub overflow_add-result : goal.overflow_add-result
overflow_add-result c =
    let fd = c.ranges.day in
    let ff = c.ranges.first in
    let fr : SFits w64 c.quotient.result = search rules in
    let fs : SFits w64 (c.args.day -ℤ c.args.first) = omega (
      arith,
      ints,
      c.requires.day.0,
      c.requires.day.1,
      c.requires.value.0,
      c.requires.value.1,
    ) in
    let e = simp to_z-of_z at c.quotient.ensures.quotient in
    let n = month_near c.args.day c.args.first c.requires.day.0 c.requires.day.1 c.requires.value in
    simp to_z-of_z (omega (arith, ints, e, n.from, n.to))

pub returns : goal.returns
returns c =
    let fd = c.ranges.day in
    let ff = c.ranges.first in
    let fr : SFits w64 c.quotient.result = search rules in
    let fs : SFits w64 (c.args.day -ℤ c.args.first) = omega (
      arith,
      ints,
      c.requires.day.0,
      c.requires.day.1,
      c.requires.value.0,
      c.requires.value.1,
    ) in
    let e = simp to_z-of_z at c.quotient.ensures.quotient in
    let n = month_near c.args.day c.args.first c.requires.day.0 c.requires.day.1 c.requires.value in
    let ft : SFits w64 (c.quotient.result +ℤ pos 1) = omega (arith, ints, e, n.from, n.to) in
    simp to_z-of_z
    (record {
      number = omega (arith, ints, e);
      near = (omega (arith, ints, e, n.from), omega (arith, ints, e, n.to));
    })
