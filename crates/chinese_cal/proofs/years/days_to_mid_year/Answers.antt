use Rattle.std.proofs.Common.{rules, arith, SFits, w64, pos, ◌-ℤ◌, ◌*ℤ◌}
use Rattle.std.proofs.lemmas.Int.{to_z-of_z, ints}
use Rattle.book_model.specs.calendars.Chinese.{days_to_mid_year}
use Rattle.chinese_cal.proofs.Counts.{middle_near}
use Rattle.chinese_cal.proofs.years.days_to_mid_year.Goals as goal

pub returns : goal.returns
unfolding days_to_mid_year
returns c =
    let fn = c.ranges.number in
    let fr : SFits w64 c.days_of.result = search rules in
    let ft : SFits w64 (pos 2 *ℤ c.args.number) = omega (arith, ints, c.requires.number.0, c.requires.number.1) in
    let fs : SFits w64 (pos 2 *ℤ c.args.number -ℤ pos 1) = omega (arith, ints, c.requires.number.0, c.requires.number.1)
    in
    let e = simp to_z-of_z at c.days_of.ensures.days in
    let n = middle_near c.args.number c.requires.number in
    simp to_z-of_z (record { days = e; from = rw e n.from; to = rw e n.to })
