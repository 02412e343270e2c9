-- Where the years of an almanac begin, and how many months have passed then.
use Rattle.std.specs.Prelude.{◌≡◌, ℕ, ◌≤◌, ℤ, pos, ◌+ℤ◌, ◌-ℤ◌, ◌*ℤ◌, ◌≤ℤ◌, refl}
use Rattle.std.proofs.Common.{arith}
use Rattle.std.proofs.lemmas.Int.{ints}
use Rattle.book_model.specs.Fraction.{floor_quotient, times, plus, reciprocal}
use Rattle.book_model.proofs.Floors.{floor_quotient_is}
use Rattle.book_model.specs.declared.calendar_tables.TheConstants.{SYNODIC_MONTH}
use Rattle.book_model.specs.declared.version.TheConstants.{FIRST_ALMANAC_YEAR, LAST_ALMANAC_YEAR}
use Rattle.book_model.specs.calendars.Gregorian.{first_day, days_of_months, fixed_of}
use Rattle.book_model.specs.numbers.Fractions.{fraction_of}
use Rattle.book_model.specs.calendars.Spans.{spans_of, ratio}

pub january_from : (y : ℕ) → FIRST_ALMANAC_YEAR ≤ y → pos 600000 ≤ℤ fixed_of y 1 1
unfolding fixed_of first_day days_of_months
january_from y h =
    let a = floor_quotient_is (pos y -ℤ pos 1) 3 in
    let b = floor_quotient_is (pos y -ℤ pos 1) 99 in
    let c = floor_quotient_is (pos y -ℤ pos 1) 399 in
    omega (arith, ints, h, a.not_above, a.close, b.not_above, b.close, c.not_above, c.close)

pub january_to : (y : ℕ) → y ≤ LAST_ALMANAC_YEAR → fixed_of y 1 1 ≤ℤ pos 800000
unfolding fixed_of first_day days_of_months
january_to y h =
    let a = floor_quotient_is (pos y -ℤ pos 1) 3 in
    let b = floor_quotient_is (pos y -ℤ pos 1) 99 in
    let c = floor_quotient_is (pos y -ℤ pos 1) 399 in
    omega (arith, ints, h, a.not_above, a.close, b.not_above, b.close, c.not_above, c.close)

months_are : (days : ℤ) → spans_of (fraction_of SYNODIC_MONTH) days (ratio (pos 0) 1) ≡ floor_quotient
    (days *ℤ pos 1000000000 *ℤ pos 1 +ℤ pos 0) 29530588860
unfolding spans_of plus times reciprocal
months_are days = refl

pub months_from : (days : ℤ) → pos 300000 ≤ℤ days → pos 0 ≤ℤ spans_of (fraction_of SYNODIC_MONTH) days (ratio (pos 0) 1)
months_from days h =
    let f = floor_quotient_is (days *ℤ pos 1000000000 *ℤ pos 1 +ℤ pos 0) 29530588860 in
    omega (arith, ints, h, months_are days, f.not_above, f.close)

pub months_few : (days : ℤ) → days ≤ℤ pos 600000 → spans_of (fraction_of SYNODIC_MONTH) days (ratio (pos 0) 1)
    ≤ℤ pos 21000
months_few days h =
    let f = floor_quotient_is (days *ℤ pos 1000000000 *ℤ pos 1 +ℤ pos 0) 29530588860 in
    omega (arith, ints, h, months_are days, f.not_above, f.close)
