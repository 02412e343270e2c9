-- The calendars, by their rows: which dates they may have, the number of a date's year, and which dates are answered as
-- far as that can be told without any fact; the day that a date names, and the date of a day.
use Rattle.std.specs.Prelude.{ℕ, zero, suc, ◌&&◌, ◌==◌, nat_le, Bool, true, false, [], ◌∷◌, IsTrue, ℤ, pos, ◌+ℤ◌, ◌*ℤ◌}
use Rattle.std.specs.Prelude.{◌≤ℤ◌, unsigned_abs, slice_index_or}
use Rattle.std.specs.Ordering.{int_eq}
use denote.Enum.Declared.{tag_of}
use lib.Pointwise.{pointwise}
use Rattle.book_model.specs.contracts.calendar.Calendar.{the_type}
use Rattle.book_model.specs.declared.calendar.Calendar.{Calendar}
use Rattle.book_model.specs.declared.calendar.Calendar.TheVariants as calendars
use Rattle.book_model.specs.declared.calendar.Calendar.TheVariants.{Gregorian, Fixed}
use Rattle.book_model.specs.declared.calendar.CalendarRow.{CalendarRow}
use Rattle.book_model.specs.declared.calendar.TheConstants.{CALENDARS, LAST_DATE_DAY}
use Rattle.book_model.specs.declared.fact.Place.TheVariants.{Hanoi, Seoul, Tokyo}
use Rattle.book_model.specs.declared.request.Fields.{Fields}
use Rattle.book_model.specs.declared.version.Version.{Version}
use Rattle.book_model.specs.calendars.Bahai.{bahai_on, bahai_day}
use Rattle.book_model.specs.calendars.Gregorian.{is_date, fixed_of, year_of_day, month_of_day, day_of_month}
use Rattle.book_model.specs.calendars.Chinese.{chinese_on, chinese_day}
use Rattle.book_model.specs.calendars.French.{french_on, french_day}
use Rattle.book_model.specs.calendars.HebrewObserved.{hebrew_on, hebrew_day}
use Rattle.book_model.specs.sky.Correction.{is_between}
use Rattle.book_model.specs.calendars.Inquiries.{Inquiry, done, field_at, to_32_bits}
use Rattle.book_model.specs.calendars.HinduLunar.{hindu_lunar_on, hindu_lunar_day}
use Rattle.book_model.specs.calendars.HinduSolar.{hindu_solar_on, hindu_solar_day}
use Rattle.book_model.specs.calendars.Islamic.{islamic_on, islamic_day}
use Rattle.book_model.specs.calendars.Moving.{at_place}
use Rattle.book_model.specs.calendars.Persian.{persian_on, persian_day}
use Rattle.book_model.specs.calendars.Versions.{range_in, is_in_some}

abbrev pub no_row : CalendarRow
no_row = record {
  calendar = Gregorian;
  count = 0;
  limits = [];
  weights = [];
  offset = pos 0;
  first_day = pos 0;
  years = [];
  is_confirmed = false;
  is_padded = false;
}

-- the row of a calendar
abbrev pub row_of : Calendar → CalendarRow
row_of c = slice_index_or CALENDARS (tag_of the_type c) no_row

-- a field of a date, from 0, less its sign
abbrev pub field : Fields → ℕ → ℕ
field f k = unsigned_abs (field_at f k)

-- a field lies within its limits
abbrev pub is_within : CalendarRow → Fields → ℕ → Bool
is_within row f k = nat_le (slice_index_or row.limits k (0, 0)).0 (field f k) && nat_le (field f k)
    (slice_index_or row.limits k (0, 0)).1

-- each field lies within its limits
abbrev pub are_within : CalendarRow → Fields → Bool
are_within row f = is_within row f 0 && is_within row f 1 && is_within row f 2 && is_within row f 3 && is_within row f 4

-- the month has the day: those of the Gregorian calendar differ in length from year to year as well, which it tells
-- without any fact
abbrev pub has_day_of_month : Calendar → Fields → Bool
has_day_of_month Gregorian f = is_date (field f 0) (field f 1) (field f 2)
has_day_of_month c f = true

-- a calendar may have a date with these fields
unfoldable pub may_have : Calendar → Fields → Bool
may_have c f = (f.count == (row_of c).count) && are_within (row_of c) f && has_day_of_month c f

-- what a field counts in the number of the year
abbrev pub weighed : CalendarRow → Fields → ℕ → ℤ
weighed row f k = slice_index_or row.weights k (pos 0) *ℤ pos (field f k)

-- the offset of the number of the year, and what its first fields count
abbrev pub counted : CalendarRow → Fields → ℕ → ℤ
counted row f zero = row.offset
counted row f (suc k) = counted row f k +ℤ weighed row f k

-- the number of the year of a date
unfoldable pub year_number : CalendarRow → Fields → ℤ
year_number row f = counted row f 5

-- the number of the year is one that a version answers
abbrev pub has_year : Version → CalendarRow → Fields → Bool
has_year version row f = is_between (range_in version row.years).0 (range_in version row.years).1 (year_number row f)

-- the number of the year is one that some version answers
unfoldable pub has_some_year : Calendar → Fields → Bool
has_some_year c f = is_in_some (row_of c).years (year_number (row_of c) f)

-- what a calendar may be asked the day of: a date that it may have, of a year that some version answers
abbrev pub IsAskable : Calendar → Fields → Type 0
IsAskable c f = IsTrue (may_have c f) × IsTrue (has_some_year c f)

-- a day whose date a calendar tells
abbrev pub IsDateDay : Calendar → ℤ → Type 0
IsDateDay c day = ((row_of c).first_day ≤ℤ day) × (day ≤ℤ LAST_DATE_DAY)

-- the day of a Gregorian date, and that of a day number
abbrev pub gregorian_day : Fields → ℤ
gregorian_day f = fixed_of (field f 0) (field f 1) (field f 2)

abbrev pub fixed_day : Fields → ℤ
fixed_day f = pos (field f 0)

-- a day that is known without any fact lies in the reach of a line, from its first to its last day
abbrev pub has_day_in_reach : ℤ × ℤ → Calendar → Fields → Bool
has_day_in_reach reach Gregorian f = is_between reach.0 reach.1 (gregorian_day f)
has_day_in_reach reach Fixed f = is_between reach.0 reach.1 (fixed_day f)
has_day_in_reach reach c f = true

-- the dates that a line of a version answers, as far as that can be told without any fact
unfoldable pub is_answered : Version → ℤ × ℤ → Calendar → Fields → Bool
is_answered version reach c f = has_year version (row_of c) f && has_day_in_reach reach c f

-- one number as the only field of a date or of a result
abbrev pub one_field : ℤ → Fields
one_field z = record { count = 1; values = to_32_bits z ∷ pos 0 ∷ pos 0 ∷ pos 0 ∷ pos 0 ∷ [] }

-- the Gregorian date of a day: year, month and day
unfoldable pub gregorian_fields_on : ℤ → Fields
gregorian_fields_on day = record {
  count = 3;
  values = to_32_bits (year_of_day day) ∷ pos (month_of_day day)
      ∷ pos (day_of_month day) ∷ pos 0 ∷ pos 0 ∷ [];
}

-- whether two dates have the same fields
abbrev pub are_same_fields : Fields → Fields → Bool
are_same_fields f g = (f.count == g.count) && pointwise int_eq f.values g.values

-- the day (R.D.) that a date names
abbrev pub day_named : Calendar → Fields → Inquiry ℤ
day_named Gregorian f = done (gregorian_day f)
day_named Fixed f = done (fixed_day f)
day_named calendars.Persian f = persian_day (pos (field f 0)) (pos (field f 1)) (pos (field f 2))
day_named calendars.Bahai f = bahai_day (pos (field f 0)) (pos (field f 1)) (pos (field f 2)) (pos (field f 3))
    (pos (field f 4))
day_named calendars.Chinese f = chinese_day (pos (field f 0)) (pos (field f 1)) (pos (field f 2)) (pos (field f 3))
    (pos (field f 4))
day_named calendars.Vietnamese f = at_place Hanoi (chinese_day (pos (field f 0)) (pos (field f 1)) (pos (field f 2))
    (pos (field f 3)) (pos (field f 4)))
day_named calendars.Korean f = at_place Seoul (chinese_day (pos (field f 0)) (pos (field f 1)) (pos (field f 2))
    (pos (field f 3)) (pos (field f 4)))
day_named calendars.Japanese f = at_place Tokyo (chinese_day (pos (field f 0)) (pos (field f 1)) (pos (field f 2))
    (pos (field f 3)) (pos (field f 4)))
day_named calendars.Islamic f = islamic_day (pos (field f 0)) (pos (field f 1)) (pos (field f 2))
day_named calendars.HinduSolar f = hindu_solar_day (pos (field f 0)) (pos (field f 1)) (pos (field f 2))
day_named calendars.HinduLunar f = hindu_lunar_day (pos (field f 0)) (pos (field f 1)) (pos (field f 2))
    (pos (field f 3)) (pos (field f 4))
day_named calendars.French f = french_day (pos (field f 0)) (pos (field f 1)) (pos (field f 2))
day_named calendars.HebrewObserved f = hebrew_day (pos (field f 0)) (pos (field f 1)) (pos (field f 2))

-- the date of a day (R.D.)
abbrev pub date_on : Calendar → ℤ → Inquiry Fields
date_on Gregorian day = done (gregorian_fields_on day)
date_on Fixed day = done (one_field day)
date_on calendars.Persian day = persian_on day
date_on calendars.Bahai day = bahai_on day
date_on calendars.Chinese day = chinese_on day
date_on calendars.Vietnamese day = at_place Hanoi (chinese_on day)
date_on calendars.Korean day = at_place Seoul (chinese_on day)
date_on calendars.Japanese day = at_place Tokyo (chinese_on day)
date_on calendars.Islamic day = islamic_on day
date_on calendars.HinduSolar day = hindu_solar_on day
date_on calendars.HinduLunar day = hindu_lunar_on day
date_on calendars.French day = french_on day
date_on calendars.HebrewObserved day = hebrew_on day
