-- The French calendar of the Revolution by the equinox: a year begins on the day at whose end, at apparent midnight in
-- Paris, the sun has come to the autumnal equinox. The fields of a result that their types don't hold are clamped to
-- the nearest bounds, so that the rules have an answer over every table. Reingold and Dershowitz, Calendrical
-- Calculations, chapter 17.
use Rattle.std.specs.Prelude.{[], ◌∷◌, ℤ, pos, ◌+ℤ◌, ◌-ℤ◌, ◌*ℤ◌}
use Rattle.book_model.specs.declared.calendar_tables.TheConstants.{FRENCH_EPOCH}
use Rattle.book_model.specs.declared.fact.Fact.{Fact}
use Rattle.book_model.specs.declared.fact.Kind.TheVariants.{FrenchYear}
use Rattle.book_model.specs.declared.fact.Place.TheVariants.{None as Nowhere}
use Rattle.book_model.specs.declared.request.Fields.{Fields}
use Rattle.book_model.specs.calendars.Inquiries.{Inquiry, done, ask, to_32_bits, to_8_bits}
use Rattle.book_model.specs.calendars.Spans.{days_of_years, modulo, quotient_down, years_of_days}

-- the fact of the first day of the French year that a day falls in
abbrev pub french_year_fact : ℤ → Fact
french_year_fact day = record { kind = FrenchYear; place = Nowhere; day = day }

-- a day about the middle of a year
unfoldable pub mid_year_day : ℤ → ℤ
mid_year_day year = FRENCH_EPOCH +ℤ pos 180 +ℤ days_of_years (year -ℤ pos 1)

-- the year that begins on a day
unfoldable pub year_begun : ℤ → ℤ
year_begun first = pos 1 +ℤ years_of_days (first -ℤ FRENCH_EPOCH)

-- year, month and day, by the year and the days of it that are over: a month has 30 days, and the last five or six days
-- of a year count as a month of their own
unfoldable pub french_fields : (year over : ℤ) → Fields
french_fields year over =
    record {
      count = 3;
      values = to_32_bits year ∷ to_8_bits (quotient_down over 30 +ℤ pos 1) ∷ (modulo over 30 +ℤ pos 1) ∷ pos 0 ∷ pos 0
          ∷ [];
    }

-- the French date of a day (R.D.)
unfoldable pub french_on : ℤ → Inquiry Fields
french_on day = ask (french_year_fact day) λ first. done (french_fields (year_begun first) (day -ℤ first))

-- the day (R.D.) of a year, a month and a day
unfoldable pub french_day : (year month day : ℤ) → Inquiry ℤ
french_day year month day =
    ask (french_year_fact (mid_year_day year)) λ first.
    done (first +ℤ pos 30 *ℤ (month -ℤ pos 1) +ℤ day -ℤ pos 1)
