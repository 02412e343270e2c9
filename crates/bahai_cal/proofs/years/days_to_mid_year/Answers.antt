use Rattle.std.proofs.Common.{rules, arith, SFits, w64, pos, ◌+ℤ◌, ◌*ℤ◌}
use Rattle.std.proofs.lemmas.Int.{to_z-of_z, ints}
use Rattle.book_model.specs.calendars.Bahai.{days_to_mid_year}
use Rattle.bahai_cal.proofs.Counts.{middle_near}
use Rattle.bahai_cal.proofs.years.days_to_mid_year.Goals as goal

pub returns : goal.returns
unfolding days_to_mid_year
returns c =
    let fn = c.ranges.passed in
    let fr : SFits w64 c.days_of.result = search rules in
    let ft : SFits w64 (pos 2 *ℤ c.args.passed) = omega (arith, ints, c.requires.near.0, c.requires.near.1) in
    let fs : SFits w64 (pos 2 *ℤ c.args.passed +ℤ pos 1) = omega (arith, ints, c.requires.near.0, c.requires.near.1) in
    let e = simp to_z-of_z at c.days_of.ensures.days in
    let n = middle_near c.args.passed c.requires.near in
    simp to_z-of_z (record { days = e; low = rw e n.from; high = rw e n.to })
