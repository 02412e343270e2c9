use Rattle.std.proofs.Common.{rules, arith, SFits, w8, w16, w32, w64}
use Rattle.std.proofs.lemmas.Int.{to_z-of_z, ints}
use Rattle.civil_core.proofs.Days.{year_of_date_from_one, date_is_of_day}
use Rattle.civil_core.proofs.civil.from_fixed.Goals as goal

pub returns-clause-date : goal.returns-clause-date
returns-clause-date c =
    let fn : SFits w64 c.args.day = c.ranges.day in
    let fy : SFits w16 c.year.result = search rules in
    let fm : SFits w8 c.month.result = search rules in
    let fd : SFits w8 c.day.result = search rules in
    let gy : SFits w32 c.from.result = search rules in
    let y = rw c.year.ensures at (simp to_z-of_z at c.from.ensures) in
    let m = rw c.month.ensures at (simp to_z-of_z at c.unsigned_abs.ensures.value) in
    let d = rw c.day.ensures at (simp to_z-of_z at c.unsigned_abs-2.ensures.value) in
    let named = simp to_z-of_z at c.date_on-date.ensures.day in
    let first = year_of_date_from_one c.date_on-date.result c.args.day named (omega (arith, ints)) in
    simp to_z-of_z (rw (y, m, d) (date_is_of_day c.date_on-date.result c.args.day named first))
