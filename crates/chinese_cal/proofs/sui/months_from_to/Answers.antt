use Rattle.std.proofs.Common.{rules, arith, SFits, w64, ◌-ℤ◌}
use Rattle.std.proofs.lemmas.Int.{to_z-of_z, ints}
use Rattle.book_model.specs.calendars.Chinese.{months_between}
use Rattle.chinese_cal.proofs.Counts.{months_near}
use Rattle.chinese_cal.proofs.sui.months_from_to.Goals as goal

pub returns : goal.returns
unfolding months_between
returns c =
    let ff = c.ranges.from in
    let ft = c.ranges.to in
    let fr : SFits w64 c.months_of_days.result = search rules in
    let fs : SFits w64 (c.args.to -ℤ c.args.from) = omega (
      arith,
      ints,
      c.requires.from_near.0,
      c.requires.from_near.1,
      c.requires.to_near.0,
      c.requires.to_near.1,
    ) in
    let e = simp to_z-of_z at c.months_of_days.ensures.months in
    let n = months_near c.args.from c.args.to c.requires.from_near c.requires.to_near in
    simp to_z-of_z (record { months = e; low = rw e n.from; high = rw e n.to })
