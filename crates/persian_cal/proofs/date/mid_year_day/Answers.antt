use Rattle.std.proofs.Common.{rules, arith, SFits, w64, pos, ◌+ℤ◌, ◌-ℤ◌}
use Rattle.std.proofs.lemmas.Int.{to_z-of_z, ints}
use Rattle.book_model.specs.calendars.Persian.{mid_year_day}
use Rattle.calendar_math.proofs.TropicalYears.{days_near}
use Rattle.persian_cal.proofs.date.mid_year_day.Goals as goal

pub overflow_add-result-2 : goal.overflow_add-result-2
overflow_add-result-2 c =
    let fy = c.ranges.year in
    let fr : SFits w64 c.days_of_years.result = search rules in
    let fm : SFits w64 (c.args.year -ℤ pos 1) = omega (arith, ints, c.requires.year.0, c.requires.year.1) in
    let e = simp to_z-of_z at c.days_of_years.ensures.days in
    let n = days_near (c.args.year -ℤ pos 1) (record {
      from = omega (arith, ints, c.requires.year.0, c.requires.year.1);
      to = omega (arith, ints, c.requires.year.0, c.requires.year.1);
    }) in
    simp to_z-of_z (omega (arith, ints, e, n.from, n.to))

pub returns : goal.returns
unfolding mid_year_day
returns c =
    let fy = c.ranges.year in
    let fr : SFits w64 c.days_of_years.result = search rules in
    let fm : SFits w64 (c.args.year -ℤ pos 1) = omega (arith, ints, c.requires.year.0, c.requires.year.1) in
    let e = simp to_z-of_z at c.days_of_years.ensures.days in
    let n = days_near (c.args.year -ℤ pos 1) (record {
      from = omega (arith, ints, c.requires.year.0, c.requires.year.1);
      to = omega (arith, ints, c.requires.year.0, c.requires.year.1);
    }) in
    let fs : SFits w64 (pos 227076 +ℤ c.days_of_years.result) = omega (arith, ints, e, n.from, n.to) in
    simp to_z-of_z
    (record {
      day = omega (arith, ints, e);
      near = (omega (arith, ints, e, n.from, n.to), omega (arith, ints, e, n.from, n.to));
    })
