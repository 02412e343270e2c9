-- Counts of years and their days: the quotients that they are, and how large they get. Each count unfolds, by
-- computing, to one quotient of whole numbers rounded down; what such a quotient is bounds it then, by linear
-- arithmetic from the bounds of what is divided. The limits are wide, since they only keep the code's numbers in their
-- types.
use Rattle.std.specs.Prelude.{◌≡◌, ℤ, pos, negsuc, ◌+ℤ◌, ◌-ℤ◌, ◌*ℤ◌, ◌≤ℤ◌, refl}
use Rattle.std.proofs.Common.{arith}
use Rattle.std.proofs.lemmas.Int.{ints}
use Rattle.book_model.specs.Fraction.{floor_quotient, times, plus, reciprocal}
use Rattle.book_model.proofs.Floors.{floor_quotient_is}
use Rattle.book_model.specs.calendars.Bahai.{days_to_mid_year, years_before}
use Rattle.book_model.specs.sky.Facts.{IsFactValue}
use Rattle.book_model.specs.calendars.Spans.{days_of, nearest, quotient_down, years_of_days}
use Rattle.calendar_math.proofs.SpanLemmas.{LiesWithin}
use Rattle.bahai_cal.specs.Years.{IsNearYear}

-- the days to the middle of a year as a quotient of whole numbers
middle_is : (passed : ℤ) → days_to_mid_year passed ≡ floor_quotient (pos 365242189 *ℤ (pos 2 *ℤ passed +ℤ pos 1))
    1999999
unfolding days_to_mid_year days_of times
middle_is passed = refl

pub middle_near : (passed : ℤ) → IsNearYear passed → LiesWithin (negsuc 19999999) (pos 20000000)
    (days_to_mid_year passed)
middle_near passed h =
    let f = floor_quotient_is (pos 365242189 *ℤ (pos 2 *ℤ passed +ℤ pos 1)) 1999999 in
    let e = middle_is passed in
    record {
      from = omega (arith, ints, h.0, h.1, e, f.not_above, f.close);
      to = omega (arith, ints, h.0, h.1, e, f.not_above, f.close);
    }

-- the years before one as a quotient of whole numbers
years_are : (first : ℤ)
    → years_before first ≡ floor_quotient ((first -ℤ pos 673222) *ℤ pos 1000000 *ℤ pos 2 +ℤ pos 365242189) 730484377
unfolding years_before years_of_days nearest times plus reciprocal
years_are first = refl

pub years_near : (first : ℤ) → IsFactValue first → LiesWithin (negsuc 29997) (pos 29998) (years_before first)
years_near first h =
    let f = floor_quotient_is ((first -ℤ pos 673222) *ℤ pos 1000000 *ℤ pos 2 +ℤ pos 365242189) 730484377 in
    let e = years_are first in
    record {
      from = omega (arith, ints, h.0, h.1, e, f.not_above, f.close);
      to = omega (arith, ints, h.0, h.1, e, f.not_above, f.close);
    }

-- a month of a day, by its quotient
pub month_near : (day first : ℤ) → pos 0 ≤ℤ day → day ≤ℤ pos 1000000 → IsFactValue first
    → LiesWithin (negsuc 899999) (pos 900000) (quotient_down (day -ℤ first) 19)
month_near day first h k p =
    let f = floor_quotient_is (day -ℤ first) 18 in
    record {
      from = omega (arith, ints, h, k, p.0, p.1, f.not_above, f.close);
      to = omega (arith, ints, h, k, p.0, p.1, f.not_above, f.close);
    }
