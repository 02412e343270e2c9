-- The Hindu lunar calendar by the true moon, at Ujjain: a month runs from new moon to new moon and has the number of
-- the sign that the sun enters in it; a month in which it enters none is an added one, with the number of the next. A
-- day has the number of the lunar day, the tithi, at its sunrise; a second day with the same tithi is a leap day. Years
-- are counted by the Vikrama era. The day of a date is this project's own. Reingold and Dershowitz, Calendrical
-- Calculations, chapter 20. The fields of a result that their types don't hold are clamped to the nearest bounds, so
-- that the rules have an answer over every table.
use Rattle.std.specs.Prelude.{Bool, ◌&&◌, if◌then◌else◌, List, [], ◌∷◌, ℤ, pos, ◌+ℤ◌, ◌-ℤ◌, int_le}
use Rattle.std.specs.Ordering.{int_eq}
use Rattle.book_model.specs.declared.calendar_tables.TheConstants.{HINDU_EPOCH, VIKRAMA_ERA}
use Rattle.book_model.specs.declared.fact.Kind.TheVariants.{Tithi, SignBefore, SignAfter, CalendarYear}
use Rattle.book_model.specs.declared.request.Fields.{Fields}
use Rattle.book_model.specs.calendars.HinduSolar.{hindu_fact, days_to_month}
use Rattle.book_model.specs.calendars.Inquiries.{Inquiry, done, ask, and_then, field_at, first_of, flag, to_32_bits}
use Rattle.book_model.specs.calendars.Inquiries.{to_8_bits}
use Rattle.book_model.specs.calendars.Spans.{amod}

-- ---- the date of a day
-- the number of a month, by the sign of the sun at the new moon with which it begins
abbrev pub month_by_sign : ℤ → ℤ
month_by_sign sign = amod (sign +ℤ pos 1) 12

-- the day of which the year of a month is asked: in the first two months one half a year on, as the year begins with
-- the first
unfoldable pub year_asked_of : (day month : ℤ) → ℤ
year_asked_of day month = if int_le month (pos 2) then day +ℤ pos 180 else day

-- year, month, whether it is added, day, and whether it is the second of its tithi: by the tithis of the day and of the
-- day before, the signs at the new moons before and after, and the year of the Kali Yuga
unfoldable pub lunar_fields : (tithi earlier before after year : ℤ) → Fields
lunar_fields tithi earlier before after year =
    record {
      count = 5;
      values = to_32_bits (year -ℤ VIKRAMA_ERA) ∷ month_by_sign before ∷ flag (int_eq after before) ∷ to_8_bits tithi
          ∷ flag
          (int_eq earlier tithi) ∷ [];
    }

-- the date of a day by its tithi and that of the day before
unfoldable pub lunar_date_by : (day tithi earlier : ℤ) → Inquiry Fields
lunar_date_by day tithi earlier =
    ask (hindu_fact SignBefore day) λ before.
    ask (hindu_fact SignAfter day) λ after.
    ask (hindu_fact CalendarYear (year_asked_of day (month_by_sign before))) λ year.
    done (lunar_fields tithi earlier before after year)

-- the Hindu lunar date of a day (R.D.)
unfoldable pub hindu_lunar_on : ℤ → Inquiry Fields
hindu_lunar_on day =
    ask (hindu_fact Tithi day) λ tithi.
    ask (hindu_fact Tithi (day -ℤ pos 1)) λ earlier.
    lunar_date_by day tithi earlier

-- ---- the day of a date
-- whether a date is in the month of the one that is sought: it has its year, its month and its leap month
unfoldable pub is_of_month : (sought date : Fields) → Bool
is_of_month sought date = int_eq (field_at date 0) (field_at sought 0) && int_eq (field_at date 1) (field_at sought 1)
    && int_eq (field_at date 2)
    (field_at sought 2)

-- whether it is that date: it has its day and its leap day too
unfoldable pub is_sought_date : (sought date : Fields) → Bool
is_sought_date sought date = is_of_month sought date && int_eq (field_at date 3) (field_at sought 3) && int_eq
    (field_at date 4) (field_at sought 4)

-- whether a day (R.D.) lies in the month of a date
unfoldable pub lies_in_month : (sought : Fields) (day : ℤ) → Inquiry Bool
lies_in_month sought day = and_then (hindu_lunar_on day) λ date. done (is_of_month sought date)

-- whether a day (R.D.) has a date
unfoldable pub has_date : (sought : Fields) (day : ℤ) → Inquiry Bool
has_date sought day = and_then (hindu_lunar_on day) λ date. done (is_sought_date sought date)

-- a day, that 30 days before and that 30 days after it: one of them lies in the month sought
unfoldable pub month_candidates : ℤ → List ℤ
month_candidates day = day ∷ (day -ℤ pos 30) ∷ (day +ℤ pos 30) ∷ []

-- about the middle of a month: the first of these that lies in it, else the day itself
unfoldable pub middle_about : (sought : Fields) (day : ℤ) → Inquiry ℤ
middle_about sought day = first_of (month_candidates day) (lies_in_month sought) day

-- the days from two before a day to two after it
unfoldable pub day_candidates : ℤ → List ℤ
day_candidates day = (day -ℤ pos 2) ∷ (day -ℤ pos 1) ∷ day ∷ (day +ℤ pos 1) ∷ (day +ℤ pos 2) ∷ []

-- the first of these that has the date, else the day itself
unfoldable pub day_about : (sought : Fields) (day : ℤ) → Inquiry ℤ
day_about sought day = first_of (day_candidates day) (has_date sought) day

-- the day of a date by the middle of its month, whose tithi leads to it, or to a day near it
unfoldable pub day_by_middle : (sought : Fields) (middle : ℤ) → Inquiry ℤ
day_by_middle sought middle = ask (hindu_fact Tithi middle) λ tithi. day_about sought
    (middle -ℤ tithi +ℤ field_at sought 3)

-- a day about the middle of a month, by the mean sun
unfoldable pub day_by_sun : (year month : ℤ) → ℤ
day_by_sun year month = HINDU_EPOCH +ℤ days_to_month VIKRAMA_ERA year month +ℤ pos 12

-- the day of a date by a day about the middle of its month, whose tithi leads to the middle of a month, the fifteenth
unfoldable pub day_by_month : (sought : Fields) (day : ℤ) → Inquiry ℤ
day_by_month sought day =
    ask (hindu_fact Tithi day) λ tithi.
    and_then (middle_about sought (day -ℤ tithi +ℤ pos 15)) λ middle.
    day_by_middle sought middle

-- year, month, leap month, day and leap day
abbrev pub lunar_date : (year month leap_month day leap_day : ℤ) → Fields
lunar_date year month leap_month day leap_day = record {
  count = 5;
  values = year ∷ month ∷ leap_month ∷ day ∷ leap_day
      ∷ [];
}

-- the day (R.D.) of a date
unfoldable pub hindu_lunar_day : (year month leap_month day leap_day : ℤ) → Inquiry ℤ
hindu_lunar_day year month leap_month day leap_day = day_by_month (lunar_date year month leap_month day leap_day)
    (day_by_sun year month)
