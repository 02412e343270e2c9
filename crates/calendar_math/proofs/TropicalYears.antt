-- Spans of mean tropical years: the quotients that they are, and how large they get.
use Rattle.std.specs.Prelude.{◌≡◌, ℤ, pos, negsuc, ◌+ℤ◌, ◌*ℤ◌, refl}
use Rattle.std.proofs.Common.{arith}
use Rattle.std.proofs.lemmas.Int.{ints}
use Rattle.book_model.specs.Fraction.{floor_quotient, times, plus, reciprocal}
use Rattle.book_model.proofs.Floors.{floor_quotient_is}
use Rattle.calendar_math.proofs.SpanLemmas.{LiesWithin}
use Rattle.book_model.specs.calendars.Spans.{days_of, days_of_years, years_of_days, nearest}

-- the days of years as a quotient of whole numbers
pub days_of_years_is : (years : ℤ) → days_of_years years ≡ floor_quotient (pos 365242189 *ℤ years) 999999
unfolding days_of_years days_of times
days_of_years_is years = refl

-- the years of days as a quotient of whole numbers
pub years_of_days_is : (days : ℤ)
    → years_of_days days ≡ floor_quotient ((days *ℤ pos 1000000) *ℤ pos 2 +ℤ pos 365242189) 730484377
unfolding years_of_days nearest times plus reciprocal
years_of_days_is days = refl

-- the days of the years that values of facts begin
pub days_near : (years : ℤ) → LiesWithin (negsuc 30000) (pos 30000) years → LiesWithin (negsuc 11999999) (pos 12000000)
    (days_of_years years)
days_near years h = let f = floor_quotient_is (pos 365242189 *ℤ years) 999999 in let e = days_of_years_is years in
    record {
      from = omega (arith, ints, h.from, h.to, f.not_above, f.close);
      to = omega (arith, ints, h.from, h.to, f.not_above, f.close);
    }

-- the years of the days that are values of facts
pub years_near : (days : ℤ) → LiesWithin (negsuc 10699999) (pos 10700000) days → LiesWithin (negsuc 29997) (pos 29998)
    (years_of_days days)
years_near days h = let f = floor_quotient_is ((days *ℤ pos 1000000) *ℤ pos 2 +ℤ pos 365242189) 730484377 in
    let e = years_of_days_is days in record {
      from = omega (arith, ints, h.from, h.to, f.not_above, f.close);
      to = omega (arith, ints, h.from, h.to, f.not_above, f.close);
    }
