-- The 104 lines of the almanac of a Gregorian year, as requests: five new years and two festivals, the months of the
-- Islamic calendar, the solar terms, the phases of the moon, and sunset at Cairo.
use Rattle.std.specs.Prelude.{ℕ, zero, suc, ◌+◌, ◌-◌, ◌/◌, ◌%◌, ◌==◌, nat_lt, if◌then◌else◌, List, [], ◌∷◌, pos, ◌-ℤ◌}
use Rattle.std.specs.Prelude.{unsigned_abs}
use Rattle.book_model.specs.declared.calendar_tables.TheConstants.{ISLAMIC_EPOCH, SYNODIC_MONTH}
use Rattle.book_model.specs.declared.request.Request.{Request}
use Rattle.book_model.specs.declared.words.FromWord.{FromWord}
use Rattle.book_model.specs.declared.words.FromWord.TheVariants as from
use Rattle.book_model.specs.declared.words.ToWord.TheVariants as to
use Rattle.book_model.specs.calendars.Gregorian.{fixed_of}
use Rattle.book_model.specs.numbers.Fractions.{fraction_of}
use Rattle.book_model.specs.lines.Requests.{fields_with}
use Rattle.book_model.specs.calendars.Spans.{spans_of, ratio}

-- the Gregorian date of what a word and numbers name
abbrev pub date_of : FromWord → List ℕ → Request
date_of word numbers = record { from = word; date = fields_with numbers; to = to.Gregorian }

-- a day of the year that begins in a Gregorian year, by the word of the Chinese or another calendar of its rules: the
-- years are counted in cycles of 60, and 2637 of them passed before the first year of our era
unfoldable pub chinese_day_of : FromWord → (year month day : ℕ) → Request
chinese_day_of word year month day = date_of word (((year + 2636) / 60 + 1) ∷ ((year + 2636) % 60 + 1) ∷ month ∷ 0
    ∷ day ∷ [])

-- the first day of the Bahá'í year that begins in a Gregorian year: that of 1844 is the first of the first major cycle,
-- which is 19 cycles of 19 years, and the major cycle before it, from 1483 on, has the number 0
unfoldable pub bahai_new_year_of : ℕ → Request
bahai_new_year_of year = date_of from.Bahai (((year - 1483) / 361) ∷ ((year - 1483) % 361 / 19 + 1)
    ∷ ((year - 1483) % 19 + 1) ∷ 1 ∷ 1 ∷ [])

-- the new years and festivals, from 1 to 7
unfoldable pub festival_of : (year index : ℕ) → Request
festival_of year index =
    if index == 1 then chinese_day_of from.Chinese year 1 1
    else (if index == 2 then chinese_day_of from.Chinese year 5 5
    else (if index == 3 then date_of from.MinorTerm (year ∷ 3 ∷ 30 ∷ [])
    else (if index == 4 then date_of from.Persian ((year - 621) ∷ 1 ∷ 1 ∷ [])
    else (if index == 5 then bahai_new_year_of year
    else (if index == 6 then date_of from.HinduSolar ((year - 78) ∷ 1 ∷ 1 ∷ [])
    else date_of from.HinduLunar ((year + 57) ∷ 1 ∷ 0 ∷ 1 ∷ 0 ∷ []))))))

-- the mean synodic months from the Islamic epoch to the beginning of a year, rounded down
unfoldable pub months_to : ℕ → ℕ
months_to year = unsigned_abs (spans_of (fraction_of SYNODIC_MONTH) (fixed_of year 1 1 -ℤ ISLAMIC_EPOCH)
    (ratio (pos 0) 1))

-- the first day of the Islamic month before which so many months have passed
unfoldable pub islamic_month_after : ℕ → Request
islamic_month_after passed = date_of from.Islamic ((passed / 12 + 1) ∷ (passed % 12 + 1) ∷ 1 ∷ [])

-- the minor and the major solar term of each month, from 0 to 23
unfoldable pub term_of : (year index : ℕ) → Request
term_of year index =
    if index % 2 == 0 then date_of from.MinorTerm (year ∷ (index / 2 + 1) ∷ 1 ∷ []) else date_of from.MajorTerm
    (year ∷ (index / 2 + 1) ∷ 15 ∷ [])

-- the phases of the moon in their order
unfoldable pub phase_word : ℕ → FromWord
phase_word index = if index == 0 then from.NewMoon
    else (if index == 1 then from.FirstQuarter else (if index == 2 then from.FullMoon else from.LastQuarter))

-- the four phases before the 28th of each month, from 0 to 47
unfoldable pub month_phase_of : (year index : ℕ) → Request
month_phase_of year index = date_of (phase_word (index % 4)) (year ∷ (index / 4 + 1) ∷ 28 ∷ [])

-- sunset at Cairo on the first of a month
unfoldable pub month_sunset_of : (year month : ℕ) → Request
month_sunset_of year month = record {
  from = from.Gregorian;
  date = fields_with (year ∷ month ∷ 1 ∷ []);
  to = to.SunsetCairo;
}

-- the line of an index, from 1 to 104
unfoldable pub almanac_line_of : (year index : ℕ) → Request
almanac_line_of year index =
    if nat_lt index 8 then festival_of year index
    else (if nat_lt index 21 then islamic_month_after (months_to year + (index - 8))
    else (if nat_lt index 45 then term_of year (index - 21)
    else (if nat_lt index 93 then month_phase_of year (index - 45)
    else month_sunset_of year (index - 92))))

-- so many lines, from an index on
abbrev pub lines_from : (ℕ → Request) → (index many : ℕ) → List Request
lines_from line index zero = []
lines_from line index (suc many) = line index ∷ lines_from line (index + 1) many

-- the lines of the almanac of a year
abbrev pub almanac_requests : ℕ → List Request
almanac_requests year = lines_from (almanac_line_of year) 1 104
