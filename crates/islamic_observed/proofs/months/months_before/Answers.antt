use Rattle.std.proofs.Common.{rules, arith, SFits, w64, pos, ◌-ℤ◌}
use Rattle.std.proofs.lemmas.Int.{to_z-of_z, ints}
use Rattle.book_model.specs.calendars.Islamic.{months_before}
use Rattle.islamic_observed.proofs.Counts.{months_near}
use Rattle.islamic_observed.proofs.months.months_before.Goals as goal

pub returns : goal.returns
unfolding months_before
returns c =
    let ff = c.ranges.first in
    let fr : SFits w64 c.months_of_days.result = search rules in
    let fs : SFits w64 (c.args.first -ℤ pos 227015) = omega (arith, ints, c.requires.value.0, c.requires.value.1) in
    let e = simp to_z-of_z at c.months_of_days.ensures.months in
    let n = months_near c.args.first c.requires.value in
    simp to_z-of_z (record { months = e; near = (omega (arith, ints, e, n.from), omega (arith, ints, e, n.to)) })
