use Rattle.std.proofs.Common.{arith, SFits, w64, pos, ◌+ℤ◌, ◌-ℤ◌}
use Rattle.std.proofs.lemmas.Int.{to_z-of_z, ints}
use Rattle.persian_cal.proofs.date.date_from_facts.Goals as goal

pub returns : goal.returns
returns c =
    let fy = c.ranges.year in
    let fn = c.ranges.new_year in
    let fd = c.ranges.day in
    let fs : SFits w64 (c.args.day -ℤ c.args.new_year) = omega
    (arith, ints, c.requires.new_year.0, c.requires.new_year.1, c.requires.day.0, c.requires.day.1) in
    let ft : SFits w64 (c.args.day -ℤ c.args.new_year +ℤ pos 1) = omega
    (arith, ints, c.requires.new_year.0, c.requires.new_year.1, c.requires.day.0, c.requires.day.1) in
    record { date = simp to_z-of_z at c.date_from_number.ensures.date }
