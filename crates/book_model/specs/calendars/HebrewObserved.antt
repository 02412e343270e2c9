-- The Hebrew calendar by observation: a month begins on the day on whose evening before the crescent is first seen, at
-- Haifa by Shaukat's criterion, and Nisan is the month about the spring equinox. Months are counted from Nisan; the
-- number of the year changes with Tishri, the seventh. That number is counted by this project. The fields of a result
-- that their types don't hold are clamped to the nearest bounds, so that the rules have an answer over every table.
-- Reingold and Dershowitz, Calendrical Calculations, chapter 18.
use Rattle.std.specs.Prelude.{if◌then◌else◌, [], ◌∷◌, ℤ, pos, ◌+ℤ◌, ◌-ℤ◌, int_le, int_lt}
use Rattle.exact_math.specs.Fraction.{whole, times, reciprocal}
use Rattle.book_model.specs.declared.calendar_tables.TheConstants.{OBSERVED_MONTH, TISHRI, WORLD_ERA}
use Rattle.book_model.specs.declared.fact.Fact.{Fact}
use Rattle.book_model.specs.declared.fact.Kind.TheVariants.{Nisan, Phasis}
use Rattle.book_model.specs.declared.fact.Place.TheVariants.{Haifa}
use Rattle.book_model.specs.declared.request.Fields.{Fields}
use Rattle.book_model.specs.calendars.Gregorian.{first_day, year_of_day}
use Rattle.book_model.specs.calendars.Inquiries.{Inquiry, done, ask, flag, to_32_bits, to_8_bits}
use Rattle.book_model.specs.calendars.Spans.{nearest}
use Rattle.book_model.specs.numbers.Fractions.{fraction_of}

-- the fact of the first day of the month that a day falls in
abbrev pub month_fact : ℤ → Fact
month_fact day = record { kind = Phasis; place = Haifa; day = day }

-- the fact of the first day of Nisan in a Gregorian year
abbrev pub nisan_fact : ℤ → Fact
nisan_fact year = record { kind = Nisan; place = Haifa; day = first_day year }

-- how many months of 29 1/2 days, to the nearest, so many days are
unfoldable pub observed_months_of : ℤ → ℤ
observed_months_of days = nearest (times (whole days) (reciprocal (fraction_of OBSERVED_MONTH)))

-- the days of so many of these months, to the nearest
unfoldable pub days_of_observed_months : ℤ → ℤ
days_of_observed_months months = nearest (times (fraction_of OBSERVED_MONTH) (whole months))

-- how much the number of the Hebrew year, in a month, exceeds that of the Gregorian year in which Nisan came last
abbrev pub years_ahead : ℤ → ℤ
years_ahead month = WORLD_ERA +ℤ flag (int_le TISHRI month)

-- the number, from 1, of the month that begins so many days after the first of Nisan
abbrev pub month_begun : ℤ → ℤ
month_begun days = observed_months_of days +ℤ pos 1

-- year, month and day, by the Gregorian year in which Nisan came last, the month and the day
unfoldable pub hebrew_fields : (nisan_year month day : ℤ) → Fields
hebrew_fields nisan_year month day =
    record {
      count = 3;
      values = to_32_bits (nisan_year +ℤ years_ahead month) ∷ to_8_bits month ∷ to_8_bits day ∷ pos 0
          ∷ pos 0 ∷ [];
    }

-- the date of a day of a month that begins on a day, by the Gregorian year in which Nisan came last and its first day
-- there
abbrev pub hebrew_by : (day first nisan_year nisan : ℤ) → Fields
hebrew_by day first nisan_year nisan = hebrew_fields nisan_year (month_begun (first -ℤ nisan)) (day -ℤ first +ℤ pos 1)

-- the same by the first day of Nisan in the Gregorian year of the day: where the day comes before it, Nisan came last
-- in the year before
unfoldable pub hebrew_since : (day first year nisan : ℤ) → Inquiry Fields
hebrew_since day first year nisan =
    if int_lt day nisan
    then (ask (nisan_fact (year -ℤ pos 1)) λ earlier. done (hebrew_by day first (year -ℤ pos 1) earlier))
    else done (hebrew_by day first year nisan)

-- the Hebrew date of a day (R.D.)
unfoldable pub hebrew_on : ℤ → Inquiry Fields
hebrew_on day =
    ask (month_fact day) λ first.
    ask (nisan_fact (year_of_day day)) (hebrew_since day first (year_of_day day))

-- a day about the middle of a month, by the first day of Nisan
unfoldable pub mid_month_day : (nisan month : ℤ) → ℤ
mid_month_day nisan month = nisan +ℤ days_of_observed_months (month -ℤ pos 1) +ℤ pos 15

-- the day (R.D.) of a year, a month and a day
unfoldable pub hebrew_day : (year month day : ℤ) → Inquiry ℤ
hebrew_day year month day =
    ask (nisan_fact (year -ℤ years_ahead month)) λ nisan.
    ask (month_fact (mid_month_day nisan month)) λ first.
    done (first +ℤ day -ℤ pos 1)
