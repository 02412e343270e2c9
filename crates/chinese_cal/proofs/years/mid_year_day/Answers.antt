use Rattle.std.proofs.Common.{rules, arith, SFits, w64, pos, negsuc, ◌+ℤ◌, ◌-ℤ◌, ◌*ℤ◌}
use Rattle.std.proofs.lemmas.Int.{to_z-of_z, ints}
use Rattle.book_model.specs.calendars.Chinese.{mid_year_day}
use Rattle.chinese_cal.proofs.years.mid_year_day.Goals as goal

pub returns-clause-day : goal.returns-clause-day
unfolding mid_year_day
returns-clause-day c =
    let fc = c.ranges.cycle in
    let fy = c.ranges.year in
    let fr : SFits w64 c.days_to_mid_year.result = search rules in
    let fm : SFits w64 (c.args.cycle -ℤ pos 1) = omega (arith, ints, c.requires.from_cycle, c.requires.to_cycle) in
    let fp : SFits w64 (pos 60 *ℤ (c.args.cycle -ℤ pos 1)) =
    omega (arith, ints, c.requires.from_cycle, c.requires.to_cycle) in
    let fs : SFits w64 (pos 60 *ℤ (c.args.cycle -ℤ pos 1) +ℤ c.args.year) = omega
    (arith, ints, c.requires.from_cycle, c.requires.to_cycle, c.requires.from_year, c.requires.to_year) in
    let e = simp to_z-of_z at c.days_to_mid_year.ensures.days in
    let a = c.days_to_mid_year.ensures.from in
    let b = c.days_to_mid_year.ensures.to in
    let ft : SFits w64 (negsuc 963098 +ℤ c.days_to_mid_year.result) = omega (arith, ints, a, b) in
    simp to_z-of_z (omega (arith, ints, e))
