-- The days of so many twelfths of sidereal years: the quotient that they are, and how large they get. The count
-- unfolds, by computing, to one quotient of whole numbers rounded down; what such a quotient is bounds it then, by
-- linear arithmetic from the bounds of what is divided.
use Rattle.std.specs.Prelude.{◌≡◌, ℤ, pos, negsuc, ◌*ℤ◌, ◌≤ℤ◌, refl}
use Rattle.std.proofs.Common.{arith}
use Rattle.std.proofs.lemmas.Int.{ints}
use Rattle.book_model.specs.Fraction.{floor_quotient, times}
use Rattle.book_model.proofs.Floors.{floor_quotient_is}
use Rattle.book_model.specs.declared.calendar_tables.TheConstants.{SIDEREAL_YEAR}
use Rattle.book_model.specs.numbers.Fractions.{fraction_of}
use Rattle.book_model.specs.calendars.Spans.{days_of, ratio}
use Rattle.calendar_math.proofs.SpanLemmas.{LiesWithin}

days_are : (twelfths : ℤ) → days_of (fraction_of SIDEREAL_YEAR) (ratio twelfths 12) ≡ floor_quotient
    (pos 36525636 *ℤ twelfths) 1199999
unfolding days_of times
days_are twelfths = refl

pub days_near : (twelfths : ℤ) → negsuc 119999 ≤ℤ twelfths → twelfths ≤ℤ pos 170000
    → LiesWithin (negsuc 3999999) (pos 6000000) (days_of (fraction_of SIDEREAL_YEAR) (ratio twelfths 12))
days_near twelfths h k =
    let f = floor_quotient_is (pos 36525636 *ℤ twelfths) 1199999 in
    let e = days_are twelfths in
    record {
      from = omega (arith, ints, h, k, e, f.not_above, f.close);
      to = omega (arith, ints, h, k, e, f.not_above, f.close);
    }
