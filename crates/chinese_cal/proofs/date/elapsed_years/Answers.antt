use Rattle.std.proofs.Common.{rules, arith, SFits, w64, pos, negsuc, ◌-ℤ◌}
use Rattle.std.proofs.lemmas.Int.{to_z-of_z, ints}
use Rattle.book_model.specs.calendars.Chinese.{elapsed_years}
use Rattle.chinese_cal.proofs.Counts.{elapsed_near}
use Rattle.chinese_cal.proofs.date.elapsed_years.Goals as goal

pub returns : goal.returns
unfolding elapsed_years
returns c =
    let fd = c.ranges.day in
    let fm = c.ranges.month in
    let fr : SFits w64 c.spans_of.result = search rules in
    let fe : SFits w64 (c.args.day -ℤ negsuc 963098) = omega (arith, ints, c.requires.near.0, c.requires.near.1) in
    let fs : SFits w64 (pos 18 -ℤ c.args.month) = omega (arith, ints, c.requires.from, c.requires.to) in
    let e = simp to_z-of_z at c.spans_of.ensures.spans in
    let n = elapsed_near c.args.day c.args.month c.requires.near c.requires.from c.requires.to in
    simp to_z-of_z (record { years = e; low = rw e n.from; high = rw e n.to })
