use Rattle.std.proofs.Common.{rules, arith, SFits, w64, pos, ◌+ℤ◌, ◌-ℤ◌}
use Rattle.std.proofs.lemmas.Int.{to_z-of_z, ints}
use Rattle.book_model.specs.calendars.Persian.{year_begun}
use Rattle.calendar_math.proofs.TropicalYears.{years_near}
use Rattle.persian_cal.proofs.date.year_begun.Goals as goal

pub overflow_add-result : goal.overflow_add-result
overflow_add-result c =
    let ff = c.ranges.first in
    let fr : SFits w64 c.years_of_days.result = search rules in
    let fm : SFits w64 (c.args.first -ℤ pos 226896) = omega (arith, ints, c.requires.first.0, c.requires.first.1) in
    let e = simp to_z-of_z at c.years_of_days.ensures.years in
    let n = years_near (c.args.first -ℤ pos 226896) (record {
      from = omega (arith, ints, c.requires.first.0, c.requires.first.1);
      to = omega (arith, ints, c.requires.first.0, c.requires.first.1);
    }) in
    simp to_z-of_z (omega (arith, ints, e, n.from, n.to))

pub returns : goal.returns
unfolding year_begun
returns c =
    let ff = c.ranges.first in
    let fr : SFits w64 c.years_of_days.result = search rules in
    let fm : SFits w64 (c.args.first -ℤ pos 226896) = omega (arith, ints, c.requires.first.0, c.requires.first.1) in
    let e = simp to_z-of_z at c.years_of_days.ensures.years in
    let n = years_near (c.args.first -ℤ pos 226896) (record {
      from = omega (arith, ints, c.requires.first.0, c.requires.first.1);
      to = omega (arith, ints, c.requires.first.0, c.requires.first.1);
    }) in
    let fs : SFits w64 (pos 1 +ℤ c.years_of_days.result) = omega (arith, ints, e, n.from, n.to) in
    simp to_z-of_z
    (record {
      year = omega (arith, ints, e);
      near = (omega (arith, ints, e, n.from, n.to), omega (arith, ints, e, n.from, n.to));
    })
