use Rattle.std.proofs.Common.{rules, arith, SFits, w64, pos, ◌-ℤ◌}
use Rattle.std.proofs.lemmas.Int.{to_z-of_z, ints}
use Rattle.book_model.specs.calendars.Bahai.{years_before}
use Rattle.bahai_cal.proofs.Counts.{years_near}
use Rattle.bahai_cal.proofs.years.years_before.Goals as goal

pub returns : goal.returns
unfolding years_before
returns c =
    let ff = c.ranges.first in
    let fr : SFits w64 c.years_of_days.result = search rules in
    let fs : SFits w64 (c.args.first -ℤ pos 673222) = omega (arith, ints, c.requires.value.0, c.requires.value.1) in
    let e = simp to_z-of_z at c.years_of_days.ensures.years in
    let n = years_near c.args.first c.requires.value in
    simp to_z-of_z (record { years = e; low = omega (arith, ints, e, n.from); high = omega (arith, ints, e, n.to) })
