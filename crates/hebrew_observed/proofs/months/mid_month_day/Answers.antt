use Rattle.std.proofs.Common.{rules, arith, SFits, w64, pos, ◌+ℤ◌, ◌-ℤ◌}
use Rattle.std.proofs.lemmas.Int.{to_z-of_z, ints}
use Rattle.book_model.specs.calendars.HebrewObserved.{mid_month_day}
use Rattle.hebrew_observed.proofs.months.mid_month_day.Goals as goal

pub returns-clause-day : goal.returns-clause-day
unfolding mid_month_day
returns-clause-day c =
    let fn = c.ranges.nisan in
    let fm = c.ranges.month in
    let value = c.requires.value in
    let near = c.days_of_months.ensures in
    let fr : SFits w64 c.days_of_months.result = search rules in
    let fo : SFits w64 (c.args.month -ℤ pos 1) = omega (arith, ints, c.requires.month.0, c.requires.month.1) in
    let e = simp to_z-of_z at near.days in
    let fs : SFits w64 (c.args.nisan +ℤ c.days_of_months.result) =
    omega (arith, ints, value.0, value.1, near.from_first, near.to_last) in
    let ft : SFits w64 (c.args.nisan +ℤ c.days_of_months.result +ℤ pos 15) =
    omega (arith, ints, value.0, value.1, near.from_first, near.to_last) in
    simp to_z-of_z (omega (arith, ints, e))
