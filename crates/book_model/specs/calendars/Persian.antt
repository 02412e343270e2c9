-- The Persian calendar by the equinox: a year begins on the day on which the sun has passed it at true noon in Tehran.
-- The fields of a result that their types don't hold are clamped to the nearest bounds, so that the rules have an
-- answer over every table. Reingold and Dershowitz, Calendrical Calculations, chapter 15.
use Rattle.std.specs.Prelude.{if◌then◌else◌, [], ◌∷◌, ℤ, pos, ◌+ℤ◌, ◌-ℤ◌, ◌*ℤ◌, int_le}
use Rattle.book_model.specs.declared.calendar_tables.TheConstants.{PERSIAN_EPOCH}
use Rattle.book_model.specs.declared.fact.Fact.{Fact}
use Rattle.book_model.specs.declared.fact.Kind.TheVariants.{Nowruz}
use Rattle.book_model.specs.declared.fact.Place.TheVariants.{None as Nowhere}
use Rattle.book_model.specs.declared.request.Fields.{Fields}
use Rattle.book_model.specs.calendars.Inquiries.{Inquiry, done, ask, to_32_bits, to_8_bits}
use Rattle.book_model.specs.calendars.Spans.{days_of_years, quotient_up, years_of_days}

-- the fact of the first day of the Persian year that a day falls in
abbrev pub nowruz_fact : ℤ → Fact
nowruz_fact day = record { kind = Nowruz; place = Nowhere; day = day }

-- a day about the middle of a year
unfoldable pub mid_year_day : ℤ → ℤ
mid_year_day year = PERSIAN_EPOCH +ℤ pos 180 +ℤ days_of_years (year -ℤ pos 1)

-- the year that begins on a day
unfoldable pub year_begun : ℤ → ℤ
year_begun first = pos 1 +ℤ years_of_days (first -ℤ PERSIAN_EPOCH)

-- the days of a year before a month: six months have 31 days each, and those after them 30
abbrev pub days_before_month : ℤ → ℤ
days_before_month month = if int_le month (pos 7) then pos 31 *ℤ (month -ℤ pos 1) else pos 30 *ℤ (month -ℤ pos 1) +ℤ pos
    6

-- the month of a day by its number in the year, which counts from 1
abbrev pub month_of_number : ℤ → ℤ
month_of_number number = if int_le number (pos 186) then quotient_up number 31 else quotient_up (number -ℤ pos 6) 30

-- year, month and day, by the year and the day's number in it
unfoldable pub persian_fields : (year number : ℤ) → Fields
persian_fields year number =
    record {
      count = 3;
      values = to_32_bits year ∷ to_8_bits (month_of_number number) ∷ to_8_bits
          (number -ℤ days_before_month (month_of_number number)) ∷ pos 0
          ∷ pos 0 ∷ [];
    }

-- the Persian date of a day (R.D.)
unfoldable pub persian_on : ℤ → Inquiry Fields
persian_on day =
    ask (nowruz_fact day) λ first.
    ask (nowruz_fact (mid_year_day (year_begun first))) λ new_year.
    done (persian_fields (year_begun first) (day -ℤ new_year +ℤ pos 1))

-- the day (R.D.) of a year, a month and a day
unfoldable pub persian_day : (year month day : ℤ) → Inquiry ℤ
persian_day year month day =
    ask (nowruz_fact (mid_year_day year)) λ new_year.
    done (new_year +ℤ days_before_month month +ℤ day -ℤ pos 1)
