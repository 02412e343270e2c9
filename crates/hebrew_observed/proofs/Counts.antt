-- Counts of months and their days: the quotients that they are, and how large they get. Each count unfolds, by
-- computing, to one quotient of whole numbers rounded down; what such a quotient is bounds it then, by linear
-- arithmetic from the bounds of what is divided. That a rounding by halves is one by quarters compares two such
-- quotients in the same way.
use Rattle.std.specs.Prelude.{◌≡◌, ℤ, pos, negsuc, ◌+ℤ◌, ◌*ℤ◌, ◌≤ℤ◌, refl}
use Rattle.std.proofs.Common.{arith}
use Rattle.std.proofs.lemmas.Int.{ints}
use Rattle.book_model.specs.Fraction.{floor_quotient, times, plus, reciprocal}
use Rattle.book_model.proofs.Floors.{floor_quotient_is}
use Rattle.book_model.specs.calendars.HebrewObserved.{observed_months_of, days_of_observed_months}
use Rattle.book_model.specs.calendars.Spans.{nearest, quotient_down, ratio, spans_of}
use Rattle.calendar_math.proofs.SpanLemmas.{LiesWithin}

-- ---- the months of days
-- as spans and a half more
pub months_are_spans : (days : ℤ) → observed_months_of days ≡ spans_of (ratio (pos 59) 2) days (ratio (pos 1) 2)
unfolding observed_months_of nearest spans_of
months_are_spans days = refl

-- as a quotient of whole numbers
months_are : (days : ℤ) → observed_months_of days ≡ floor_quotient ((days *ℤ pos 2) *ℤ pos 2 +ℤ pos 59) 117
unfolding observed_months_of nearest times plus reciprocal
months_are days = refl

pub months_near : (days : ℤ) → LiesWithin (negsuc 19999999) (pos 20000000) days
    → LiesWithin (negsuc 799999) (pos 800000) (observed_months_of days)
months_near days h =
    let f = floor_quotient_is ((days *ℤ pos 2) *ℤ pos 2 +ℤ pos 59) 117 in
    let e = months_are days in
    record {
      from = omega (arith, ints, h.from, h.to, e, f.not_above, f.close);
      to = omega (arith, ints, h.from, h.to, e, f.not_above, f.close);
    }

-- ---- the days of months
days_are : (months : ℤ) → days_of_observed_months months ≡ floor_quotient ((pos 59 *ℤ months) *ℤ pos 2 +ℤ pos 2) 3
unfolding days_of_observed_months nearest times plus
days_are months = refl

-- the half makes no quarter
pub days_halved : (months : ℤ) → quotient_down (pos 59 *ℤ months +ℤ pos 1) 2 ≡ days_of_observed_months months
days_halved months =
    let f = floor_quotient_is (pos 59 *ℤ months +ℤ pos 1) 1 in
    let g = floor_quotient_is ((pos 59 *ℤ months) *ℤ pos 2 +ℤ pos 2) 3 in
    let e = days_are months in
    omega (arith, ints, e, f.not_above, f.close, g.not_above, g.close)

pub days_near : (months : ℤ) → pos 0 ≤ℤ months → months ≤ℤ pos 12
    → LiesWithin (pos 0) (pos 400) (days_of_observed_months months)
days_near months h k =
    let g = floor_quotient_is ((pos 59 *ℤ months) *ℤ pos 2 +ℤ pos 2) 3 in
    let e = days_are months in
    record {
      from = omega (arith, ints, h, k, e, g.not_above, g.close);
      to = omega (arith, ints, h, k, e, g.not_above, g.close);
    }
