use Rattle.std.proofs.Common.{rules, arith, SFits, w32, w64, ◌+ℤ◌, refl}
use Rattle.std.proofs.lemmas.Int.{to_z-of_z, ints}
use Rattle.book_model.specs.calendars.HebrewObserved.{hebrew_fields}
use Rattle.hebrew_observed.proofs.date.date_from_month.Goals as goal

pub returns : goal.returns
unfolding hebrew_fields
returns c =
    let fy = c.ranges.nisan_year in
    let fm = c.ranges.month in
    let fd = c.ranges.day in
    let fa : SFits w64 c.years_ahead.result = search rules in
    let fr : SFits w32 c.to_32_bits.result = search rules in
    let fs : SFits w64 (c.args.nisan_year +ℤ c.years_ahead.result) = omega
    (arith, ints, c.requires.year.0, c.requires.year.1, c.years_ahead.ensures.from, c.years_ahead.ensures.to) in
    let ahead = simp to_z-of_z at c.years_ahead.ensures.ahead in
    let y = rw ahead at (simp to_z-of_z at c.to_32_bits.ensures) in
    let m = simp to_z-of_z at c.to_8_bits.ensures.number in
    let d = simp to_z-of_z at c.to_8_bits-2.ensures.number in
    record { date = simp to_z-of_z (rw (y, m, d) refl) }
