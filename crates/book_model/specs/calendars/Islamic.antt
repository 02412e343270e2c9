-- The Islamic calendar by observation: a month begins on the day on whose evening before the crescent is first seen, at
-- Cairo by Shaukat's criterion. The fields of a result that their types don't hold are clamped to the nearest bounds,
-- so that the rules have an answer over every table. Reingold and Dershowitz, Calendrical Calculations, chapter 18.
use Rattle.std.specs.Prelude.{[], ◌∷◌, ℤ, pos, ◌+ℤ◌, ◌-ℤ◌, ◌*ℤ◌}
use Rattle.book_model.specs.declared.calendar_tables.TheConstants.{ISLAMIC_EPOCH, SYNODIC_MONTH}
use Rattle.book_model.specs.declared.fact.Fact.{Fact}
use Rattle.book_model.specs.declared.fact.Kind.TheVariants.{Phasis}
use Rattle.book_model.specs.declared.fact.Place.TheVariants.{Cairo}
use Rattle.book_model.specs.declared.request.Fields.{Fields}
use Rattle.book_model.specs.numbers.Fractions.{fraction_of}
use Rattle.book_model.specs.calendars.Inquiries.{Inquiry, done, ask, to_32_bits, to_8_bits}
use Rattle.book_model.specs.calendars.Spans.{days_of, modulo, months_of_days, quotient_down, ratio}

-- the fact of the first day of the month that a day falls in
abbrev pub phasis_fact : ℤ → Fact
phasis_fact day = record { kind = Phasis; place = Cairo; day = day }

-- the months that have passed from the epoch before the one that begins on a day
unfoldable pub months_before : ℤ → ℤ
months_before first = months_of_days (first -ℤ ISLAMIC_EPOCH)

-- year, month and day, where so many months have passed
unfoldable pub islamic_fields : (passed day : ℤ) → Fields
islamic_fields passed day =
    record {
      count = 3;
      values = to_32_bits (quotient_down passed 12 +ℤ pos 1) ∷ (modulo passed 12 +ℤ pos 1)
          ∷ to_8_bits day ∷ pos 0 ∷ pos 0 ∷ [];
    }

-- the Islamic date of a day (R.D.)
unfoldable pub islamic_on : ℤ → Inquiry Fields
islamic_on day = ask (phasis_fact day) λ first. done (islamic_fields (months_before first) (day -ℤ first +ℤ pos 1))

-- twice the months from the epoch to the middle of a month
unfoldable pub half_months_to : (year month : ℤ) → ℤ
half_months_to year month = pos 2 *ℤ (pos 12 *ℤ (year -ℤ pos 1) +ℤ month) -ℤ pos 1

-- a day about the middle of a month
unfoldable pub mid_month_day : (year month : ℤ) → ℤ
mid_month_day year month = ISLAMIC_EPOCH +ℤ days_of (fraction_of SYNODIC_MONTH) (ratio (half_months_to year month) 2)

-- the day (R.D.) of a year, a month and a day
unfoldable pub islamic_day : (year month day : ℤ) → Inquiry ℤ
islamic_day year month day = ask (phasis_fact (mid_month_day year month)) λ first. done (first +ℤ day -ℤ pos 1)
