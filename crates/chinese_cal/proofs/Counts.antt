-- Counts of months and years, and their days: the quotients that they are, and how large they get. Each count unfolds,
-- by computing, to one quotient of whole numbers rounded down; what such a quotient is bounds it then, by linear
-- arithmetic from the bounds of what is divided. The limits are wide, since they only keep the code's numbers in their
-- types.
use Rattle.std.specs.Prelude.{◌≡◌, ℤ, pos, negsuc, ◌+ℤ◌, ◌-ℤ◌, ◌*ℤ◌, ◌≤ℤ◌, refl}
use Rattle.std.proofs.Common.{arith}
use Rattle.std.proofs.lemmas.Int.{ints}
use Rattle.book_model.specs.Fraction.{floor_quotient, times, plus, reciprocal}
use Rattle.book_model.proofs.Floors.{floor_quotient_is}
use Rattle.book_model.specs.calendars.Chinese.{months_between, elapsed_years, days_to_mid_year}
use Rattle.book_model.specs.calendars.Spans.{days_of, months_of_days, nearest, spans_of}
use Rattle.calendar_math.proofs.SpanLemmas.{LiesWithin}
use Rattle.chinese_cal.specs.Days.{IsCountedYear, IsNearDay}

-- the months from one day to another as a quotient of whole numbers
months_are : (from to : ℤ) → months_between from to ≡ floor_quotient
    ((to -ℤ from) *ℤ pos 1000000000 *ℤ pos 2 +ℤ pos 29530588861) 59061177721
unfolding months_between months_of_days nearest times plus reciprocal
months_are from to = refl

pub months_near : (from to : ℤ) → IsNearDay from → IsNearDay to → LiesWithin (negsuc 999999) (pos 1000000)
    (months_between from to)
months_near from to h k =
    let f = floor_quotient_is ((to -ℤ from) *ℤ pos 1000000000 *ℤ pos 2 +ℤ pos 29530588861) 59061177721 in
    let e = months_are from to in
    record {
      from = omega (arith, ints, h.0, h.1, k.0, k.1, e, f.not_above, f.close);
      to = omega (arith, ints, h.0, h.1, k.0, k.1, e, f.not_above, f.close);
    }

-- the years since the epoch as a quotient of whole numbers
elapsed_is : (day month : ℤ) → elapsed_years day month ≡ floor_quotient
    ((day -ℤ negsuc 963098) *ℤ pos 1000000 *ℤ pos 12 +ℤ (pos 18 -ℤ month) *ℤ pos 365242189)
    4382906267
unfolding elapsed_years spans_of times plus reciprocal
elapsed_is day month = refl

pub elapsed_near : (day month : ℤ) → IsNearDay day → pos 1 ≤ℤ month → month ≤ℤ pos 12
    → LiesWithin (negsuc 99999) (pos 100000) (elapsed_years day month)
elapsed_near day month h p q =
    let f = floor_quotient_is ((day -ℤ negsuc 963098) *ℤ pos 1000000 *ℤ pos 12 +ℤ (pos 18 -ℤ month) *ℤ pos 365242189)
    4382906267 in
    let e = elapsed_is day month in
    record {
      from = omega (arith, ints, h.0, h.1, p, q, e, f.not_above, f.close);
      to = omega (arith, ints, h.0, h.1, p, q, e, f.not_above, f.close);
    }

-- the days to the middle of a year as a quotient of whole numbers
middle_is : (number : ℤ) → days_to_mid_year number ≡ floor_quotient (pos 365242189 *ℤ (pos 2 *ℤ number -ℤ pos 1))
    1999999
unfolding days_to_mid_year days_of times
middle_is number = refl

pub middle_near : (number : ℤ) → IsCountedYear number → LiesWithin (negsuc 3999999) (pos 4000000)
    (days_to_mid_year number)
middle_near number h =
    let f = floor_quotient_is (pos 365242189 *ℤ (pos 2 *ℤ number -ℤ pos 1)) 1999999 in
    let e = middle_is number in
    record {
      from = omega (arith, ints, h.0, h.1, e, f.not_above, f.close);
      to = omega (arith, ints, h.0, h.1, e, f.not_above, f.close);
    }
