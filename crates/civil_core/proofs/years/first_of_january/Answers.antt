use Rattle.std.proofs.Common.{rules, arith, refl, SFits, w64, pos, ◌+ℤ◌, ◌-ℤ◌, ◌*ℤ◌}
use Rattle.std.proofs.lemmas.Int.{to_z-of_z, ints}
use Rattle.book_model.specs.calendars.Gregorian.{first_day}
use Rattle.civil_core.proofs.years.first_of_january.Goals as goal

pub returns-clause-day : goal.returns-clause-day
unfolding first_day
returns-clause-day c =
    let fy : SFits w64 c.args.year = c.ranges.year in
    let fl : SFits w64 c.leap_days_to.result = search rules in
    let before = c.args.year -ℤ pos 1 in
    let fb : SFits w64 before = omega (arith, ints, c.requires.from, c.requires.to) in
    let fp : SFits w64 (pos 365 *ℤ before) = omega (arith, ints, c.requires.from, c.requires.to) in
    let fs : SFits w64 (pos 365 *ℤ before +ℤ c.leap_days_to.result) = omega
    (arith, ints, c.requires.from, c.requires.to, c.leap_days_to.ensures.near_from, c.leap_days_to.ensures.near_to) in
    let ft : SFits w64 (pos 365 *ℤ before +ℤ c.leap_days_to.result +ℤ pos 1) = omega
    (arith, ints, c.requires.from, c.requires.to, c.leap_days_to.ensures.near_from, c.leap_days_to.ensures.near_to) in
    let days = simp to_z-of_z at c.leap_days_to.ensures.days in
    simp to_z-of_z (rw days refl)
