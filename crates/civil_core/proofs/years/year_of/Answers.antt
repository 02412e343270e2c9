use Rattle.std.proofs.Common.{rules, arith, ◌≡◌, ◌∙◌, ap, SFits, w64, pos, ◌+ℤ◌, ◌-ℤ◌, ◌*ℤ◌}
use Rattle.std.specs.Int.{w128}
use Rattle.std.proofs.lemmas.Int.{to_z-of_z, ints}
use Rattle.book_model.specs.calendars.Gregorian.{year_of_day}
use Rattle.civil_core.proofs.FourHundred.{year_repeats}
use Rattle.civil_core.proofs.years.year_of.Goals as goal

pub overflow_add-result : goal.overflow_add-result
overflow_add-result c =
    let fd = c.ranges.day in
    let fq : SFits w128 c.floor_div-times.result = search rules in
    let fr : SFits w64 c.year_of_date.result = search rules in
    let q = simp to_z-of_z at c.floor_div-times.ensures in
    let ft : SFits w64 c.floor_div-times.result = omega (
      arith,
      ints,
      c.requires.from,
      c.requires.to,
      q.not_above,
      q.close,
    ) in
    let fm : SFits w64 (c.floor_div-times.result *ℤ pos 400) = omega (
      arith,
      ints,
      c.requires.from,
      c.requires.to,
      q.not_above,
      q.close,
    ) in
    simp to_z-of_z
    (omega (
      arith,
      ints,
      c.requires.from,
      c.requires.to,
      q.not_above,
      q.close,
      c.year_of_date.ensures.from,
      c.year_of_date.ensures.to,
    ))

pub returns : goal.returns
returns c =
    let fd = c.ranges.day in
    let fq : SFits w128 c.floor_div-times.result = search rules in
    let fr : SFits w64 c.year_of_date.result = search rules in
    let q = simp to_z-of_z at c.floor_div-times.ensures in
    let times = c.floor_div-times.result in
    let ft : SFits w64 times = omega (arith, ints, c.requires.from, c.requires.to, q.not_above, q.close) in
    let fm : SFits w64 (times *ℤ pos 400) = omega (arith, ints, c.requires.from, c.requires.to, q.not_above, q.close) in
    let fs : SFits w64 (times *ℤ pos 400 +ℤ c.year_of_date.result) =
    omega (
      arith,
      ints,
      c.requires.from,
      c.requires.to,
      q.not_above,
      q.close,
      c.year_of_date.ensures.from,
      c.year_of_date.ensures.to,
    ) in
    let fp : SFits w128 (times *ℤ pos 146097) = omega (
      arith,
      ints,
      c.requires.from,
      c.requires.to,
      q.not_above,
      q.close,
    ) in
    let rest = c.args.day -ℤ times *ℤ pos 146097 in
    let fe : SFits w128 rest = omega (arith, ints, c.requires.from, c.requires.to, q.not_above, q.close) in
    let fl : SFits w64 rest = omega (arith, ints, c.requires.from, c.requires.to, q.not_above, q.close) in
    let named = simp to_z-of_z at c.date_on.ensures.day in
    let year = c.year_of_date.ensures.year ∙ ap year_of_day named in
    let back : rest +ℤ times *ℤ pos 146097 ≡ c.args.day = omega (arith, ints) in
    let later = year_repeats rest times in
    let same = ap year_of_day back in
    record { year = simp to_z-of_z (omega (arith, ints, year, later, same)) }
