-- Counts of months and their days: the quotients that they are, and how large they get. Each count unfolds, by
-- computing, to one quotient of whole numbers rounded down; what such a quotient is bounds it then, by linear
-- arithmetic from the bounds of what is divided. The limits are wide, since they only keep the code's numbers in their
-- types.
use Rattle.std.specs.Prelude.{◌≡◌, ℤ, pos, negsuc, ◌+ℤ◌, ◌-ℤ◌, ◌*ℤ◌, ◌≤ℤ◌, refl}
use Rattle.std.proofs.Common.{arith}
use Rattle.std.proofs.lemmas.Int.{ints}
use Rattle.book_model.specs.Fraction.{floor_quotient, times, plus, reciprocal}
use Rattle.book_model.proofs.Floors.{floor_quotient_is}
use Rattle.book_model.specs.declared.calendar_tables.TheConstants.{SYNODIC_MONTH}
use Rattle.book_model.specs.numbers.Fractions.{fraction_of}
use Rattle.book_model.specs.calendars.Islamic.{months_before}
use Rattle.book_model.specs.sky.Facts.{IsFactValue}
use Rattle.book_model.specs.calendars.Spans.{days_of, nearest, months_of_days, ratio}
use Rattle.calendar_math.proofs.SpanLemmas.{LiesWithin}

-- the days of a count of half months as a quotient of whole numbers
days_are : (halves : ℤ) → days_of (fraction_of SYNODIC_MONTH) (ratio halves 2) ≡ floor_quotient
    (pos 29530588861 *ℤ halves) 1999999999
unfolding days_of times
days_are halves = refl

pub days_near : (halves : ℤ) → negsuc 239999 ≤ℤ halves → halves ≤ℤ pos 240000
    → LiesWithin (negsuc 3999999) (pos 4000000) (days_of (fraction_of SYNODIC_MONTH) (ratio halves 2))
days_near halves h k =
    let f = floor_quotient_is (pos 29530588861 *ℤ halves) 1999999999 in
    let e = days_are halves in
    record {
      from = omega (arith, ints, h, k, e, f.not_above, f.close);
      to = omega (arith, ints, h, k, e, f.not_above, f.close);
    }

-- the months before one as a quotient of whole numbers
months_are : (first : ℤ) → months_before first ≡ floor_quotient ((first -ℤ pos 227015) *ℤ pos 1000000000 *ℤ pos 2 +ℤ pos
    29530588861) 59061177721
unfolding months_before months_of_days nearest times plus reciprocal
months_are first = refl

pub months_near : (first : ℤ) → IsFactValue first → LiesWithin (negsuc 399999) (pos 400000) (months_before first)
months_near first h =
    let f = floor_quotient_is ((first -ℤ pos 227015) *ℤ pos 1000000000 *ℤ pos 2 +ℤ pos 29530588861) 59061177721 in
    let e = months_are first in
    record {
      from = omega (arith, ints, h.0, h.1, e, f.not_above, f.close);
      to = omega (arith, ints, h.0, h.1, e, f.not_above, f.close);
    }
