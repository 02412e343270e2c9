-- The Chinese calendar by the sky of Beijing: a month begins on the day of a new moon, the month of the winter solstice
-- is the eleventh, and where twelve months lie between two of these, the first without a major solar term is a leap
-- month. Reingold and Dershowitz, Calendrical Calculations, chapter 19; Aslaksen, The Mathematics of the Chinese
-- Calendar. The fields of a result that their types don't hold are clamped to the nearest bounds, so that the rules
-- have an answer over every table.
use Rattle.std.specs.Prelude.{ℕ, zero, suc, ◌&&◌, if◌then◌else◌, Bool, true, false, not, [], ◌∷◌, ℤ, pos, ◌+ℤ◌, ◌-ℤ◌}
use Rattle.std.specs.Prelude.{◌*ℤ◌, int_lt}
use Rattle.std.specs.Ordering.{int_eq}
use Rattle.book_model.specs.declared.calendar_tables.TheConstants.{CHINESE_EPOCH, TROPICAL_YEAR}
use Rattle.book_model.specs.declared.chinese.ChineseMonth.{ChineseMonth}
use Rattle.book_model.specs.declared.chinese.Sui.{Sui}
use Rattle.book_model.specs.declared.fact.Fact.{Fact}
use Rattle.book_model.specs.declared.fact.Kind.{Kind}
use Rattle.book_model.specs.declared.fact.Kind.TheVariants.{Solstice, NewMoonBefore, NewMoonFrom, Major}
use Rattle.book_model.specs.declared.fact.Place.TheVariants.{Beijing}
use Rattle.book_model.specs.declared.request.Fields.{Fields}
use Rattle.book_model.specs.numbers.Fractions.{fraction_of}
use Rattle.book_model.specs.calendars.Inquiries.{Inquiry, done, ask, and_then, field_at, flag, to_32_bits, to_8_bits}
use Rattle.book_model.specs.calendars.Spans.{amod, quotient_down, ratio, days_of, months_of_days, spans_of}

-- ---- what is asked of the sky
-- a fact of a day in Beijing
abbrev pub beijing_fact : Kind → ℤ → Fact
beijing_fact kind day = record { kind = kind; place = Beijing; day = day }

-- the day of the last winter solstice before the end of a day
abbrev pub solstice_fact : ℤ → Fact
solstice_fact day = beijing_fact Solstice day

-- the day of the last new moon before a day begins
abbrev pub moon_before_fact : ℤ → Fact
moon_before_fact day = beijing_fact NewMoonBefore day

-- the day of the first new moon once a day has begun
abbrev pub moon_from_fact : ℤ → Fact
moon_from_fact day = beijing_fact NewMoonFrom day

-- the number of the last major solar term when a day begins
abbrev pub major_fact : ℤ → Fact
major_fact day = beijing_fact Major day

-- ---- sui
-- the number of synodic months that is nearest to the days from one day to another
unfoldable pub months_between : ℤ → ℤ → ℤ
months_between from to = months_of_days (to -ℤ from)

-- the sui in which a day falls
unfoldable pub sui_of : ℤ → Inquiry Sui
sui_of day =
    ask (solstice_fact day) λ solstice.
    ask (solstice_fact (solstice +ℤ pos 370)) λ next.
    ask (moon_from_fact (solstice +ℤ pos 1)) λ first.
    done (record { first_month = first; next_solstice = next })

-- whether twelve months lie between the months of its two solstices
unfoldable pub is_leap_sui : Sui → Inquiry Bool
is_leap_sui sui =
    ask (moon_before_fact (sui.next_solstice +ℤ pos 1)) λ eleventh.
    done (int_eq (months_between sui.first_month eleventh) (pos 12))

-- ---- leap months
-- whether a month, by the day on which it begins, has no major solar term: the last one when it begins is still the
-- last when the next month begins
unfoldable pub bare : ℤ → Inquiry Bool
bare month =
    ask (major_fact month) λ term.
    ask (moon_from_fact (month +ℤ pos 1)) λ next.
    ask (major_fact next) λ next_term.
    done (int_eq term next_term)

-- Whether a month, or one before it as far as the first of its sui, has no major term: those before it are asked first,
-- and it itself only where each of them has one. So many calls are made, and one more answers no.
unfoldable pub prior : ℕ → ℤ → ℤ → Inquiry Bool
prior zero first month = done false
prior (suc calls) first month =
    if int_lt month first then done false else (
    ask (moon_before_fact month) λ before.
    and_then (prior calls first before) λ found.
    if found then done true else bare month)

-- whether a month of a sui is its leap month or comes after it, given whether the sui has one: of fifteen months, since
-- a sui has thirteen at most
unfoldable pub is_from_leap_month : Bool → ℤ → ℤ → Inquiry Bool
is_from_leap_month leap_sui first month = if leap_sui then prior 15 first month else done false

-- whether a month of a sui is its leap month, given whether the sui has one: it has no major term, and each before it
-- has one
unfoldable pub is_leap_month : Bool → ℤ → ℤ → Inquiry Bool
is_leap_month leap_sui first month =
    if not leap_sui then done false else (
    and_then (bare month) λ is_bare.
    if not is_bare then done false else (
    ask (moon_before_fact month) λ before.
    and_then (prior 15 first before) λ found.
    done (not found)))

-- ---- dates
-- the number of a month, from the first of its sui and whether it comes after the leap month or is it: the first of a
-- sui is the twelfth of a year
unfoldable pub month_number : ℤ → ℤ → Bool → ℤ
month_number first month from_leap = amod (months_between first month -ℤ flag from_leap) 12

-- a month by the first of its sui, whether it comes after the leap month or is it, and whether it is it
unfoldable pub month_by : ℤ → ℤ → Bool → Bool → ChineseMonth
month_by first month from_leap is_leap = record {
  first_day = month;
  number = month_number first month from_leap;
  is_leap = is_leap;
}

-- a month of a sui
unfoldable pub month_in : Sui → Bool → ℤ → Inquiry ChineseMonth
month_in sui leap_sui month =
    and_then (is_from_leap_month leap_sui sui.first_month month) λ from_leap.
    and_then (is_leap_month leap_sui sui.first_month month) λ is_leap.
    done (month_by sui.first_month month from_leap is_leap)

-- the month in which a day falls
unfoldable pub chinese_month : ℤ → Inquiry ChineseMonth
chinese_month day =
    and_then (sui_of day) λ sui.
    and_then (is_leap_sui sui) λ leap_sui.
    ask (moon_before_fact (day +ℤ pos 1)) λ month.
    month_in sui leap_sui month

-- the years since the epoch, counted from 1, in which a day of a month falls
unfoldable pub elapsed_years : ℤ → ℤ → ℤ
elapsed_years day month = spans_of (fraction_of TROPICAL_YEAR) (day -ℤ CHINESE_EPOCH) (ratio (pos 18 -ℤ month) 12)

-- cycle, year, month, leap month and day, by the month in which a day falls and the years since the epoch
abbrev pub chinese_fields : ℤ → ChineseMonth → ℤ → Fields
chinese_fields day month years =
    record {
      count = 5;
      values = to_32_bits (quotient_down (years -ℤ pos 1) 60 +ℤ pos 1) ∷ amod years 60 ∷ month.number
          ∷ flag month.is_leap ∷ to_8_bits
          (day -ℤ month.first_day +ℤ pos 1) ∷ [];
    }

-- the Chinese date of a day (R.D.)
unfoldable pub chinese_on : ℤ → Inquiry Fields
chinese_on day = and_then (chinese_month day) λ month. done (chinese_fields day month (elapsed_years day month.number))

-- ---- days
-- whether the leap month of a sui is one of its first two, given whether it has one
unfoldable pub is_leap_at_start : Bool → ℤ → ℤ → Inquiry Bool
is_leap_at_start leap_sui first second =
    if not leap_sui then done false else (
    and_then (bare first) λ found.
    if found then done true else bare second)

-- the first day of the year that begins in the sui of a day: its second month, or the one after where the leap month is
-- one of the first two
unfoldable pub new_year_in_sui : ℤ → Inquiry ℤ
new_year_in_sui day =
    and_then (sui_of day) λ sui.
    ask (moon_from_fact (sui.first_month +ℤ pos 1)) λ second.
    and_then (is_leap_sui sui) λ leap_sui.
    and_then (is_leap_at_start leap_sui sui.first_month second) λ late.
    if late then ask (moon_from_fact (second +ℤ pos 1)) done else done second

-- the first day of the year in which a day falls
unfoldable pub new_year_by_day : ℤ → Inquiry ℤ
new_year_by_day day =
    and_then (new_year_in_sui day) λ new_year.
    if int_lt day new_year then new_year_in_sui (day -ℤ pos 180) else done new_year

-- the days from the epoch to the middle of a year, which counts from 1
unfoldable pub days_to_mid_year : ℤ → ℤ
days_to_mid_year number = days_of (fraction_of TROPICAL_YEAR) (ratio (pos 2 *ℤ number -ℤ pos 1) 2)

-- a day in the middle of a year of a cycle
unfoldable pub mid_year_day : ℤ → ℤ → ℤ
mid_year_day cycle year = CHINESE_EPOCH +ℤ days_to_mid_year (pos 60 *ℤ (cycle -ℤ pos 1) +ℤ year)

-- a date has this month, which is a leap month or isn't
abbrev pub has_month : ℤ → ℤ → Fields → Bool
has_month month leap date = int_eq (field_at date 2) month && int_eq (field_at date 3) leap

-- the first day of a month of a year: a new moon, or the next one where the date of the first isn't of this month
unfoldable pub month_beginning : ℤ → ℤ → ℤ → Inquiry ℤ
month_beginning new_year month leap =
    ask (moon_from_fact (new_year +ℤ pos 29 *ℤ (month -ℤ pos 1))) λ first.
    and_then (chinese_on first) λ date.
    if has_month month leap date then done first else ask (moon_from_fact (first +ℤ pos 1)) done

-- the day (R.D.) of a cycle, a year, a month, whether it is a leap month, and a day
unfoldable pub chinese_day : (cycle year month leap day : ℤ) → Inquiry ℤ
chinese_day cycle year month leap day =
    and_then (new_year_by_day (mid_year_day cycle year)) λ new_year.
    and_then (month_beginning new_year month leap) λ first.
    done (first +ℤ day -ℤ pos 1)
