-- The Hindu solar calendar by the true sun, at Ujjain: a month is that in which the sun stands in a sign of the zodiac
-- at sunset. Years are counted by the Saka era. The day of a date is this project's own. Reingold and Dershowitz,
-- Calendrical Calculations, chapter 20. The fields of a result that their types don't hold are clamped to the nearest
-- bounds, so that the rules have an answer over every table.
use Rattle.std.specs.Prelude.{[], ◌∷◌, ℤ, pos, ◌+ℤ◌, ◌-ℤ◌, ◌*ℤ◌}
use Rattle.book_model.specs.declared.calendar_tables.TheConstants.{HINDU_EPOCH, SAKA_ERA, SIDEREAL_YEAR}
use Rattle.book_model.specs.declared.fact.Fact.{Fact}
use Rattle.book_model.specs.declared.fact.Kind.{Kind}
use Rattle.book_model.specs.declared.fact.Kind.TheVariants.{Sign, SolarYear, Sankranti}
use Rattle.book_model.specs.declared.fact.Place.TheVariants.{None as Nowhere}
use Rattle.book_model.specs.declared.request.Fields.{Fields}
use Rattle.book_model.specs.numbers.Fractions.{fraction_of}
use Rattle.book_model.specs.calendars.Inquiries.{Inquiry, done, ask, to_32_bits, to_8_bits}
use Rattle.book_model.specs.calendars.Spans.{days_of, ratio}

-- a fact of the Hindu calendars, which is asked of no place
abbrev pub hindu_fact : Kind → ℤ → Fact
hindu_fact kind day = record { kind = kind; place = Nowhere; day = day }

-- year, month and day of a day, by the sign of its sunset, the year of the Kali Yuga and the first day of its month
unfoldable pub solar_fields : (day sign year first : ℤ) → Fields
solar_fields day sign year first = record {
  count = 3;
  values = to_32_bits (year -ℤ SAKA_ERA) ∷ to_8_bits sign ∷ to_8_bits (day -ℤ first +ℤ pos 1) ∷ pos 0 ∷ pos
      0 ∷ [];
}

-- the Hindu solar date of a day (R.D.)
unfoldable pub hindu_solar_on : ℤ → Inquiry Fields
hindu_solar_on day =
    ask (hindu_fact Sign day) λ sign.
    ask (hindu_fact SolarYear day) λ year.
    ask (hindu_fact Sankranti day) λ first.
    done (solar_fields day sign year first)

-- the days from the epoch to the beginning of a month by the mean sun, its years in twelfths
unfoldable pub days_to_month : (era year month : ℤ) → ℤ
days_to_month era year month = days_of (fraction_of SIDEREAL_YEAR)
    (ratio (pos 12 *ℤ (year +ℤ era) +ℤ month -ℤ pos 1) 12)

-- a day within a month, late in it
unfoldable pub day_late_in_month : (year month : ℤ) → ℤ
day_late_in_month year month = HINDU_EPOCH +ℤ days_to_month SAKA_ERA year month +ℤ pos 25

-- the day (R.D.) of a year, a month and a day
unfoldable pub hindu_solar_day : (year month day : ℤ) → Inquiry ℤ
hindu_solar_day year month day = ask (hindu_fact Sankranti (day_late_in_month year month)) λ first. done
    (first +ℤ day -ℤ pos 1)
