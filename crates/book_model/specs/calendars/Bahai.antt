-- The Bahá'í calendar by the sunset of Tehran: a year begins on the day by whose sunset, with which it begins on the
-- evening before, the sun has passed the spring equinox. It has 19 months of 19 days; before the last come the four or
-- five days of Ayyám-i-Há, which count as month 0. Reingold and Dershowitz, Calendrical Calculations, chapter 16. The
-- fields of a result that their types don't hold are clamped to the nearest bounds, so that the rules have an answer
-- over every table.
use Rattle.std.specs.Prelude.{if◌then◌else◌, [], ◌∷◌, ℤ, pos, negsuc, ◌+ℤ◌, ◌-ℤ◌, ◌*ℤ◌, int_le}
use Rattle.std.specs.Ordering.{int_eq}
use Rattle.book_model.specs.declared.bahai.BahaiMonth.{BahaiMonth}
use Rattle.book_model.specs.declared.bahai.MonthStart.{MonthStart}
use Rattle.book_model.specs.declared.calendar_tables.TheConstants.{BAHAI_EPOCH, TROPICAL_YEAR}
use Rattle.book_model.specs.declared.fact.Fact.{Fact}
use Rattle.book_model.specs.declared.fact.Kind.TheVariants.{BahaiYear}
use Rattle.book_model.specs.declared.fact.Place.TheVariants.{None as Nowhere}
use Rattle.book_model.specs.declared.request.Fields.{Fields}
use Rattle.book_model.specs.numbers.Fractions.{fraction_of}
use Rattle.book_model.specs.calendars.Inquiries.{Inquiry, done, ask, to_32_bits, to_8_bits}
use Rattle.book_model.specs.calendars.Spans.{days_of, modulo, quotient_down, ratio, years_of_days}

-- ---- years and their first days
-- the fact of the first day of the Bahá'í year that a day falls in
abbrev pub bahai_fact : ℤ → Fact
bahai_fact day = record { kind = BahaiYear; place = Nowhere; day = day }

-- the days from the epoch to the middle of the year before which so many have passed
unfoldable pub days_to_mid_year : ℤ → ℤ
days_to_mid_year passed = days_of (fraction_of TROPICAL_YEAR) (ratio (pos 2 *ℤ passed +ℤ pos 1) 2)

-- a day in the middle of that year
unfoldable pub mid_year_after : ℤ → ℤ
mid_year_after passed = BAHAI_EPOCH +ℤ days_to_mid_year passed

-- the years that have passed before the one that begins on a day
unfoldable pub years_before : ℤ → ℤ
years_before first = years_of_days (first -ℤ BAHAI_EPOCH)

-- ---- the date of a day
-- one of the first eighteen months, which have 19 days each, by the first day of its year and its number
abbrev pub month_of_19_days : (base number : ℤ) → BahaiMonth
month_of_19_days base number = record { number = number; first_day = base +ℤ pos 19 *ℤ (number -ℤ pos 1) }

-- the month of a day, by the first day that was asked of the day, that of its year and that of the next: the nineteenth
-- month is the last 19 days of the year, Ayyám-i-Há what comes between it and the eighteenth
unfoldable pub bahai_month : (day first base next : ℤ) → BahaiMonth
bahai_month day first base next =
    if int_le (next -ℤ pos 19) day then record { number = pos 19; first_day = next -ℤ pos 19 }
    else (if int_le (base +ℤ pos 342) day then record { number = pos 0; first_day = base +ℤ pos 342 }
    else month_of_19_days base (quotient_down (day -ℤ first) 19 +ℤ pos 1))

-- major cycle, cycle, year, month and day of a day of a month, where so many years have passed since the epoch
unfoldable pub bahai_fields : (day passed : ℤ) → BahaiMonth → Fields
bahai_fields day passed month =
    record {
      count = 5;
      values = to_32_bits (quotient_down passed 361 +ℤ pos 1) ∷ (quotient_down (modulo passed 361) 19 +ℤ pos 1)
          ∷ (modulo passed 19 +ℤ pos 1)
          ∷ to_8_bits month.number ∷ to_8_bits (day -ℤ month.first_day +ℤ pos 1) ∷ [];
    }

-- the Bahá'í date of a day (R.D.)
unfoldable pub bahai_on : ℤ → Inquiry Fields
bahai_on day =
    ask (bahai_fact day) λ first.
    ask (bahai_fact (mid_year_after (years_before first +ℤ pos 1))) λ next.
    ask (bahai_fact (mid_year_after (years_before first))) λ base.
    done (bahai_fields day (years_before first) (bahai_month day first base next))

-- ---- the day of a date
-- the number of a year, of all years from 1 on
abbrev pub bahai_year : (major cycle year : ℤ) → ℤ
bahai_year major cycle year = pos 361 *ℤ (major -ℤ pos 1) +ℤ pos 19 *ℤ (cycle -ℤ pos 1) +ℤ year

-- from where a month of a year is counted: the nineteenth back from the first day of the next year, the others from
-- that of the year, Ayyám-i-Há behind eighteen months of 19 days
unfoldable pub month_start : (number month : ℤ) → MonthStart
month_start number month =
    if int_eq month (pos 19) then record { passed = number; days = negsuc 18 }
    else (if int_eq month (pos 0) then record { passed = number -ℤ pos 1; days = pos 342 }
    else record { passed = number -ℤ pos 1; days = pos 19 *ℤ (month -ℤ pos 1) })

-- the day (R.D.) of a day of a month, by where the month is counted from
unfoldable pub day_counted_from : MonthStart → (day : ℤ) → Inquiry ℤ
day_counted_from start day =
    ask (bahai_fact (mid_year_after start.passed)) λ first.
    done (first +ℤ start.days +ℤ day -ℤ pos 1)

-- the day (R.D.) of a major cycle, a cycle, a year, a month and a day
unfoldable pub bahai_day : (major cycle year month day : ℤ) → Inquiry ℤ
bahai_day major cycle year month day = day_counted_from (month_start (bahai_year major cycle year) month) day
