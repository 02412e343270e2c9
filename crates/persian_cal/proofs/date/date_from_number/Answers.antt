use Rattle.std.proofs.Common.{rules, arith, SFits, w32, w64, ◌-ℤ◌, refl}
use Rattle.std.proofs.lemmas.Int.{to_z-of_z, ints}
use Rattle.book_model.specs.calendars.Persian.{persian_fields}
use Rattle.persian_cal.proofs.YearDays.{year_stands, day_left}
use Rattle.persian_cal.proofs.date.date_from_number.Goals as goal

pub returns : goal.returns
unfolding persian_fields
returns c =
    let fy = c.ranges.year in
    let fn = c.ranges.number in
    let f2 : SFits w32 c.args.year = omega (arith, ints, c.requires.year.0, c.requires.year.1) in
    let fm : SFits w64 c.month_of_number-month.result = search rules in
    let fb : SFits w64 c.days_before.result = search rules in
    let month = simp to_z-of_z at c.month_of_number-month.ensures.month in
    let before = rw month at (simp to_z-of_z at c.days_before.ensures.days) in
    let left = day_left c.args.number in
    let fs : SFits w64 (c.args.number -ℤ c.days_before.result) = rw before (omega (arith, ints, left.from, left.to)) in
    let m = rw month at (simp to_z-of_z at c.to_8_bits.ensures.number) in
    let d = rw before at (simp to_z-of_z at c.to_8_bits-2.ensures.number) in
    let y = year_stands c.args.year (record { from = c.requires.year.0; to = c.requires.year.1 }) in
    record { date = simp to_z-of_z (rw (y, m, d) refl) }
